-- What a command replies and leaves of the original's records does not depend on the generation that a link stores, nor do binding_records and committed.
use Rattle.model.proofs.Logic.{Bool, List, Option, [], ◌&&◌, ◌++◌, ◌+◌, ◌-◌, ◌∙◌, ◌∷◌, ◌≡◌, ap, eqb, length, length-map, ltb, map, map-append, map-map, none, not, refl, some, subst, sym, true, ℕ}
use Rattle.model.specs.{Commands.Command, Commands.report, Commands.result, Commands.settle, Commands.step, Commands.tests, Insertion.parent_present, Insertion.parent_retired, Interface.relies_on, Interface.taken, Interface.unknown, Kernels.commanded, Layouts.Layout, Layouts.sound_kernel, Layouts.tables_of, Lifecycle.begin_node_tests, Lifecycle.begun_link, Lifecycle.bindings, Lifecycle.relies, Lifecycle.unloading_tests, Lists.any, Lists.is_none, Lists.keep, Recorded.GenerationsUnread, Recorded.LinkRecord, Recorded.Recorded, Recorded.record_in, Recorded.recorded, Records.binding_in, Records.dead_for, Records.is_live, Records.port_of, Records.same_port, Refusals.Reply, Refusals.first, Resolution.committed, Resolution.is_live_link_of, Resolution.target, Resolution.target_list, Sizes.Sizes, Tables.Tables, Tables.node_at, declared.Error.Error, declared.Parent.Parent, declared.Port.Port, declared.records.Declaration.Declaration, declared.records.Link.Link, declared.records.Node.Node}
use Rattle.model.proofs.{Laws.Lists.any-map, Laws.Lists.keep-map, Theorems.Upstream.Kernels.commanded-reply, Theorems.Upstream.Kernels.commanded-tables}

-- ---- what is asked and made of a link, by its record

abbrev relied_record : ℕ → LinkRecord → Bool
relied_record id x = x.live && eqb x.binding.provider id

abbrev relied_on_record : ℕ → Port → LinkRecord → Bool
relied_on_record id p x = x.live && eqb x.binding.provider id && same_port (port_of x.binding) p

abbrev live_record_of : ℕ → LinkRecord → Bool
live_record_of id x = x.live && eqb x.consumer id

abbrev dead_record : ℕ → LinkRecord → LinkRecord
dead_record id x = record { consumer = x.consumer; binding = x.binding; live = x.live && not (eqb x.consumer id) }

-- ---- two tables that differ in their links' generations alone

module _ (S : Sizes) (ns : List Node) (ds : List Declaration) (ls ms : List Link) (q : map record_in ls ≡ map record_in ms) where
  abbrev T : Tables
  T = record { nodes = ns; declarations = ds; links = ls }

  abbrev U : Tables
  U = record { nodes = ns; declarations = ds; links = ms }

  -- what is read off the records
  read : {A : Type 0} (f : List LinkRecord → A) → f (map record_in ls) ≡ f (map record_in ms)
  read f = ap f q

  count_same : length ls ≡ length ms
  count_same = sym (length-map ls record_in) ∙ read length ∙ length-map ms record_in

  any_same : (p : LinkRecord → Bool) → any (λ l. p (record_in l)) ls ≡ any (λ l. p (record_in l)) ms
  any_same p = any-map record_in p ls ∙ read (any p) ∙ sym (any-map record_in p ms)

  keep_same : (p : LinkRecord → Bool) → map record_in (keep (λ l. p (record_in l)) ls) ≡ map record_in (keep (λ l. p (record_in l)) ms)
  keep_same p = keep-map record_in p ls ∙ read (keep p) ∙ sym (keep-map record_in p ms)

  live_same : map record_in (keep is_live ls) ≡ map record_in (keep is_live ms)
  live_same = keep_same (λ x. x.live)

  kept_same : length (keep is_live ls) ≡ length (keep is_live ms)
  kept_same = sym (length-map (keep is_live ls) record_in) ∙ ap length live_same ∙ length-map (keep is_live ms) record_in

  more_same : (fs : List Link) → map record_in (ls ++ fs) ≡ map record_in (ms ++ fs)
  more_same fs = map-append record_in ls fs ∙ read (λ xs. xs ++ map record_in fs) ∙ sym (map-append record_in ms fs)

  dead-same : (id : ℕ) → map record_in (map (dead_for id) ls) ≡ map record_in (map (dead_for id) ms)
  dead-same id = map-map record_in (dead_for id) ls ∙ sym (map-map (dead_record id) record_in ls) ∙ read (map (dead_record id)) ∙ map-map (dead_record id) record_in ms ∙ sym (map-map record_in (dead_for id) ms)

  -- ---- a command

  first-same : (c : Command) → first (tests S T c) ≡ first (tests S U c)
  unfolding relies_on relies target taken parent_present parent_retired
  first-same (Command.insert Parent.None es ps) = refl
  first-same (Command.insert (Parent.Of o) es ps) = refl
  first-same (Command.declare_provision id p) = refl
  first-same (Command.release_provision id p) = λ i. first (unknown T id ∷ (any_same (relied_on_record id p) i, Error.Relied) ∷ [])
  first-same (Command.configure_pending_dependencies id l) = refl
  first-same (Command.begin id) =
      let o = target_list (target T id) in
      λ i. first (begin_node_tests (node_at ns id) ++ ((is_none o, Error.MissingDependency) ∷ (ltb S.links (count_same i + length (bindings o)), Error.Capacity) ∷ []))
  first-same (Command.finish id) = refl
  first-same (Command.leave id) = refl
  first-same (Command.leave_if_changed id) = refl
  first-same (Command.retire id) = refl
  first-same (Command.begin_cleanup id) = λ i. first (unloading_tests (node_at ns id) ++ ((any_same (relied_record id) i, Error.Relied) ∷ []))
  first-same (Command.finish_cleanup id) = refl
  first-same (Command.remove id) = refl
  first-same Command.compact_bindings = refl
  first-same Command.compact_declarations = refl

  -- tables with these records
  with-links :
      {xs : List Node} {ys : List Declaration} {a b : List LinkRecord} → a ≡ b
      → ◌≡◌ {A = Recorded} (record { nodes = xs; declarations = ys; links = a }) (record { nodes = xs; declarations = ys; links = b })
  with-links {xs} {ys} e = λ i. record { nodes = xs; declarations = ys; links = e i }

  result-same : (c : Command) → recorded (result T c) ≡ recorded (result U c)
  unfolding target
  result-same (Command.insert o es ps) = with-links q
  result-same (Command.declare_provision id p) = with-links q
  result-same (Command.release_provision id p) = with-links q
  result-same (Command.configure_pending_dependencies id l) = with-links q
  result-same (Command.begin id) = with-links (more_same (map (begun_link ns id) (bindings (target_list (target T id)))))
  result-same (Command.finish id) = with-links q
  result-same (Command.leave id) = with-links q
  result-same (Command.leave_if_changed id) = with-links q
  result-same (Command.retire id) = with-links q
  result-same (Command.begin_cleanup id) = with-links q
  result-same (Command.finish_cleanup id) = with-links (dead-same id)
  result-same (Command.remove id) = with-links q
  result-same Command.compact_bindings = with-links live_same
  result-same Command.compact_declarations = with-links q

  report-same : (c : Command) → report T c ≡ report U c
  report-same (Command.insert o es ps) = refl
  report-same (Command.declare_provision id p) = refl
  report-same (Command.release_provision id p) = refl
  report-same (Command.configure_pending_dependencies id l) = refl
  report-same (Command.begin id) = refl
  report-same (Command.finish id) = refl
  report-same (Command.leave id) = refl
  report-same (Command.leave_if_changed id) = refl
  report-same (Command.retire id) = refl
  report-same (Command.begin_cleanup id) = refl
  report-same (Command.finish_cleanup id) = refl
  report-same (Command.remove id) = refl
  report-same Command.compact_bindings = λ i. Reply.removed (count_same i - kept_same i)
  report-same Command.compact_declarations = refl

  -- accepted or refused
  settled : (c : Command) (o : Option Error) → let x = settle o T (record { tables = result T c; reply = report T c }) in let y = settle o U (record { tables = result U c; reply = report U c }) in
      (x.reply ≡ y.reply) × (recorded x.tables ≡ recorded y.tables)
  unfolding settle
  settled c none = (report-same c, result-same c)
  settled c (some e) = (refl, with-links q)

  stepped : (c : Command) → ((step S T c).reply ≡ (step S U c).reply) × (recorded (step S T c).tables ≡ recorded (step S U c).tables)
  unfolding step
  stepped c = rw (first-same c) (settled c (first (tests S U c)))

  unread : GenerationsUnread S T U
  unfolding committed is_live_link_of
  unread = record {
    replies = λ c. (stepped c).0;
    tables = λ c. (stepped c).1;
    counts = count_same;
    commitments = λ id. sym (bindings-read id ls) ∙ ap (map (λ (x : LinkRecord). x.binding)) (keep_same (live_record_of id)) ∙ bindings-read id ms;
  }
    where
      bindings-read : (id : ℕ) (xs : List Link) → map (λ (x : LinkRecord). x.binding) (map record_in (keep (is_live_link_of id) xs)) ≡ map binding_in (keep (is_live_link_of id) xs)
      bindings-read id xs = map-map (λ (x : LinkRecord). x.binding) record_in (keep (is_live_link_of id) xs)

pub generations-unread : (S : Sizes) (T U : Tables) → recorded T ≡ recorded U → GenerationsUnread S T U
generations-unread S T U e =
    subst (λ (X : Tables). GenerationsUnread S X U) (λ i. record { nodes = (sym e i).nodes; declarations = (sym e i).declarations; links = T.links })
    (unread S U.nodes U.declarations T.links U.links (ap (λ (r : Recorded). r.links) e))

-- and of two sound kernels
pub kernel-unread :
    (S : Sizes) (k m : Layout) (c : Command) → sound_kernel S k ≡ true → sound_kernel S m ≡ true → recorded (tables_of k) ≡ recorded (tables_of m)
    → ((commanded S k c).reply ≡ (commanded S m c).reply) × (recorded (tables_of (commanded S k c).kernel) ≡ recorded (tables_of (commanded S m c).kernel))
kernel-unread S k m c h g e =
    let u = generations-unread S (tables_of k) (tables_of m) e in (
      commanded-reply S k c h ∙ u.replies c ∙ sym (commanded-reply S m c g),
      ap recorded (commanded-tables S k c h) ∙ u.tables c ∙ ap recorded (sym (commanded-tables S m c g)),
    )
