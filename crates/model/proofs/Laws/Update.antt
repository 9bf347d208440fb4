-- What one node anew, other links or other declarations leave of the facts.
use Rattle.model.proofs.Logic.{Bool, List, List-as-Memᴰ, ◌<◌, ◌∙◌, ◌≡◌, ◌⊎◌, false, inl, inr, le_trans, length, length-set, not, refl, set, sym, true, ℕ}
use Rattle.model.specs.{Lists.keep, Records.binding_in, Records.consumer_in, Records.dependency, Records.is_inactive, Records.is_unloading, Records.owner_in, Records.parent_in, Records.port_in, Records.provider_in, Records.provision, Sizes.Sizes, Soundness.ordered, Soundness.parent_ok, Tables.Tables, Tables.generation_at, Tables.node_at, Tables.not_inactive, Tables.present, Tables.with_declarations, Tables.with_links, Tables.with_node, declared.Parent.Parent, declared.records.Declaration.Declaration, declared.records.Link.Link, declared.records.Node.Node}
use Rattle.model.proofs.{Laws.Booleans.cases, Laws.Booleans.clash, Laws.Facts.AbsentOk, Laws.Facts.Covered, Laws.Facts.Fits, Laws.Facts.LinkOk, Laws.Facts.LiveOk, Laws.Facts.NodeOk, Laws.Facts.Safe, Laws.Facts.Sound, Laws.Facts.Stored, Laws.Facts.Unique, Laws.Lists.in_keep, Laws.Lists.keep-in, Laws.Lists.length-keep, Laws.Nodes.at_set, Laws.Nodes.parent-kept, Laws.Nodes.present-lt}

-- what a live link's consumer is, and what its provider is
abbrev pub Stands : Node → Type 0
Stands m = (m.present ≡ true) × (not (is_inactive m.phase) ≡ true)

abbrev pub Serves : Node → Type 0
Serves m = (m.present ≡ true) × (not (is_inactive m.phase) ≡ true) × (m.restoring ≡ false)

-- a node that may be written anew for an identity
pub record Update (T : Tables) (id : ℕ) (n : Node) : Type 0 where
  pub there : present T.nodes id ≡ true
  pub parent-ok : n.present ≡ true → parent_ok T.nodes id (parent_in n) ≡ true
  pub absent-inactive : n.present ≡ false → is_inactive n.phase ≡ true
  pub restoring-present : n.restoring ≡ true → n.present ≡ true
  pub restoring-unloading : n.restoring ≡ true → is_unloading n.phase ≡ true
  pub children : (i : ℕ) → present T.nodes i ≡ true → parent_in (node_at T.nodes i) ≡ Parent.Of id → n.present ≡ true
  pub consumes : (l : Link) → List-as-Memᴰ l T.links → l.live ≡ true → consumer_in l ≡ id → (n.present ≡ true) × (not (is_inactive n.phase) ≡ true)
  pub provides : (l : Link) → List-as-Memᴰ l T.links → l.live ≡ true → provider_in l ≡ id → (n.present ≡ true) × (not (is_inactive n.phase) ≡ true) × (n.restoring ≡ false)

module _ (T : Tables) (id : ℕ) (n : Node) (k : Safe T) (u : Update T id n) where
  lt : id < length T.nodes
  lt = present-lt T.nodes id u.there

  was : (i : ℕ) → present (set T.nodes id n) i ≡ true → present T.nodes i ≡ true
  was = at_set (λ i m. m.present ≡ true → present T.nodes i ≡ true) T.nodes id n lt (λ h. u.there) (λ i h. h)

  still : (i : ℕ) → (i ≡ id → n.present ≡ true) → present T.nodes i ≡ true → present (set T.nodes id n) i ≡ true
  still = at_set (λ i m. (i ≡ id → n.present ≡ true) → present T.nodes i ≡ true → m.present ≡ true) T.nodes id n lt (λ f h. f refl) (λ i f h. h)

  new-node : NodeOk (set T.nodes id n) id n
  new-node = record {
    absent-inactive = u.absent-inactive;
    absent-kept = λ a. go a (cases n.restoring);
    restoring-present = u.restoring-present;
    restoring-unloading = u.restoring-unloading;
    parent-ok = λ a. parent-kept T.nodes (set T.nodes id n) id (parent_in n) (λ j e h. still j (λ q. a) h) (u.parent-ok a);
  }
    where
      go : n.present ≡ false → (n.restoring ≡ true) ⊎ (n.restoring ≡ false) → n.restoring ≡ false
      go a (inl r) = clash n.present (u.restoring-present r) a
      go a (inr r) = r

  old_node : (i : ℕ) → NodeOk (set T.nodes id n) i (node_at T.nodes i)
  old_node i = let o : NodeOk T.nodes i (node_at T.nodes i) = k.nodes i in record {
    absent-inactive = o.absent-inactive;
    absent-kept = o.absent-kept;
    restoring-present = o.restoring-present;
    restoring-unloading = o.restoring-unloading;
    parent-ok = λ a. parent-kept T.nodes (set T.nodes id n) i (parent_in (node_at T.nodes i)) (λ j e h. still j (λ q. u.children i a (rw q at e)) h) (o.parent-ok a);
  }

  new-live : (l : Link) → List-as-Memᴰ l T.links → l.live ≡ true → LiveOk (set T.nodes id n) T.declarations (consumer_in l) (binding_in l)
  new-live l m v =
      let o : LiveOk T.nodes T.declarations (consumer_in l) (binding_in l) = k.live l m v in
      let c = at_set (λ i m. i ≡ consumer_in l → Stands m) T.nodes id n lt (λ e. u.consumes l m v (sym e)) (λ i e. rw e (o.consumer-present, o.consumer-installed)) in
      let p = at_set (λ i m. i ≡ provider_in l → Serves m) T.nodes id n lt (λ e. u.provides l m v (sym e)) (λ i e. rw e (o.provider_present, o.provider_installed, o.provider_kept)) in
      record {
        consumer-present = (c _ refl).0;
        consumer-installed = (c _ refl).1;
        provider_present = (p _ refl).0;
        provider_installed = (p _ refl).1;
        provider_kept = (p _ refl).2;
        needed = o.needed;
        offered = o.offered;
      }

  pub safe_update : Safe (with_node T id n)
  safe_update = record {
    owners = λ d m. rw (length-set T.nodes id n) (k.owners d m);
    unique = λ d e m q a b x y r. k.unique d e m q a b (was _ x) (was _ y) r;
    nodes = at_set (λ i m. NodeOk (set T.nodes id n) i m) T.nodes id n lt new-node old_node;
    live = new-live;
    order = k.order;
  }

  -- no component becomes installed
  pub covered-update : Covered T → (not (is_inactive n.phase) ≡ true → not_inactive T.nodes id ≡ true) → Covered (with_node T id n)
  covered-update c f d m p a b = c d m p (was _ a) (at_set (λ i m. not (is_inactive m.phase) ≡ true → not_inactive T.nodes i ≡ true) T.nodes id n lt f (λ i h. h) (owner_in d) b)

pub fits-update : (S : Sizes) (T : Tables) (id : ℕ) (n : Node) → Fits S T → Fits S (with_node T id n)
fits-update S T id n k = record { nodes = rw (length-set T.nodes id n) k.nodes; declarations = k.declarations; links = k.links }

-- where a live link has it as provider, the node keeps its generation
abbrev pub KeepsEpisode : List Node → List Link → ℕ → Node → Type 0
KeepsEpisode ns ls id n = (l : Link) → List-as-Memᴰ l ls → l.live ≡ true → provider_in l ≡ id → n.generation ≡ generation_at ns id

-- a node anew that does, and whose parent, if it is absent, is smaller
pub stored-update : (ns : List Node) (ls : List Link) (id : ℕ) (n : Node) → id < length ns → Stored ns ls → AbsentOk id n → KeepsEpisode ns ls id n → Stored (set ns id n) ls
stored-update ns ls id n l k a g = record {
  dead = λ x m v. rw (length-set ns id n) (k.dead x m v);
  absent = at_set AbsentOk ns id n l a k.absent;
  episodes = λ x m v.
      let was : (i : ℕ) → i ≡ provider_in x → x.generation ≡ generation_at ns i = λ i e. rw e (k.episodes x m v) in
      at_set (λ i y. i ≡ provider_in x → x.generation ≡ y.generation) ns id n l (λ e. was id e ∙ sym (g x m v (sym e))) was (provider_in x) refl;
}

pub sound-update :
    (S : Sizes) (T : Tables) (id : ℕ) (n : Node) → Sound S T → Update T id n
    → (not (is_inactive n.phase) ≡ true → not_inactive T.nodes id ≡ true)
    → AbsentOk id n
    → KeepsEpisode T.nodes T.links id n
    → Sound S (with_node T id n)
sound-update S T id n k u f a g = record {
  sizes = fits-update S T id n k.sizes;
  safe = safe_update T id n k.safe u;
  covered = covered-update T id n k.safe u k.covered f;
  stored = stored-update T.nodes T.links id n (present-lt T.nodes id u.there) k.stored a g;
}

-- other links
pub safe_links : (T : Tables) (ls : List Link) → Safe T → ordered ls ≡ true → ((l : Link) → List-as-Memᴰ l ls → LinkOk T.nodes T.declarations l) → Safe (with_links T ls)
safe_links T ls k o v = record { owners = k.owners; unique = k.unique; nodes = k.nodes; live = v; order = o }

-- what holds of the two declarations that each live link names
abbrev pub LiveLinks : Tables → (Declaration → Type 0) → Type 0
LiveLinks T P = (l : Link) → List-as-Memᴰ l T.links → l.live ≡ true → P (dependency (consumer_in l) (port_in l)) × P (provision (provider_in l) (port_in l))

-- other declarations, among them those that the live links name
pub safe-declarations :
    (T : Tables) (ds : List Declaration)
    → Safe T
    → ((d : Declaration) → List-as-Memᴰ d ds → owner_in d < length T.nodes)
    → Unique T.nodes ds
    → LiveLinks T (λ d. List-as-Memᴰ d ds)
    → Safe (with_declarations T ds)
safe-declarations T ds k o q v = record { owners = o; unique = q; nodes = k.nodes; live = live; order = k.order }
  where
    live : (l : Link) → List-as-Memᴰ l T.links → LinkOk T.nodes ds l
    live l m h =
        let w : LiveOk T.nodes T.declarations (consumer_in l) (binding_in l) = k.live l m h in
        record {
          consumer-present = w.consumer-present;
          consumer-installed = w.consumer-installed;
          provider_present = w.provider_present;
          provider_installed = w.provider_installed;
          provider_kept = w.provider_kept;
          needed = (v l m h).0;
          offered = (v l m h).1;
        }

-- a node that stays present, and installed if it was
module _ (T : Tables) (id : ℕ) (n : Node) where
  pub calm :
      Safe T
      → present T.nodes id ≡ true
      → parent_in n ≡ parent_in (node_at T.nodes id)
      → n.present ≡ true
      → (not_inactive T.nodes id ≡ true → not (is_inactive n.phase) ≡ true)
      → (n.restoring ≡ true → ((node_at T.nodes id).restoring ≡ true) × (is_unloading n.phase ≡ true))
      → Update T id n
  calm k h par pr ins res = record {
    there = h;
    parent-ok = λ a. rw par ((k.nodes id).parent-ok h);
    absent-inactive = λ a. clash n.present pr a;
    restoring-present = λ r. pr;
    restoring-unloading = λ r. (res r).1;
    children = λ i a e. pr;
    consumes = λ l m v e. (pr, ins (rw e at (k.live l m v).consumer-installed));
    provides = λ l m v e. (pr, ins (rw e at (k.live l m v).provider_installed), go (rw e at (k.live l m v).provider_kept) (cases n.restoring));
  }
    where
      go : (node_at T.nodes id).restoring ≡ false → (n.restoring ≡ true) ⊎ (n.restoring ≡ false) → n.restoring ≡ false
      go a (inl r) = clash (node_at T.nodes id).restoring (res r).0 a
      go a (inr r) = r

-- fewer declarations, with those that the live links name
pub sub_declarations : {S : Sizes} {T : Tables} → Sound S T → (q : Declaration → Bool) → LiveLinks T (λ d. q d ≡ true) → Sound S (with_declarations T (keep q T.declarations))
sub_declarations {S} {T} k q f = record {
  sizes = record { nodes = k.sizes.nodes; declarations = le_trans (length-keep q T.declarations) k.sizes.declarations; links = k.sizes.links };
  safe = safe-declarations T (keep q T.declarations) k.safe
      (λ d m. k.safe.owners d (in_keep q T.declarations m).0)
      (λ d e m n. k.safe.unique d e (in_keep q T.declarations m).0 (in_keep q T.declarations n).0)
      (λ l m v. (keep-in q (k.safe.live l m v).needed (f l m v).0, keep-in q (k.safe.live l m v).offered (f l m v).1));
  covered = λ d m p a b. k.covered d (in_keep q T.declarations m).0 p a b;
  stored = k.stored;
}
