-- `Text::explanation`: its parts stand one behind another, and each is what it prints.
use Rattle.std.proofs.Common.{Err, Result, codes}
use Rattle.model.proofs.Logic.{List, ◌++◌, ◌&&◌, ◌∙◌, ◌≡◌, Bool, append-nil, append_assoc, arith, false, length, refl, subst, true, ℕ}
use Rattle.std.specs.Bool.{OnTrue}
use Rattle.model.specs.declared.explanation.Refusal.{Refusal}
use Rattle.model.specs.declared.explanation.Witness.{Witness}
use Rattle.text.specs.Explained.{explained_text, found_text, test_text, witness_text}
use Rattle.text.specs.Shown.{refused_line}
use Rattle.text.specs.Written.{Puts}
use Rattle.text.proofs.Laws.Written.{puts_length, puts_then}
use Rattle.text.proofs.Text.explanation.Goals as goal

-- two answers of `show` that are yes
both : {X Y Z : Type 0} (a b : Bool) → OnTrue a X → OnTrue b Y → (X → Y → Z) → OnTrue (a && b) Z
both true true x y f = f x y
both true false x y f = tt
both false b x y f = tt

-- the parts, grouped as they are put
nothing_named : (e : Result (Unit {0}) Refusal) (r : Refusal) (between : List ℕ) → e ≡ Err r → r.witness ≡ Witness.Nothing →
    (refused_line r.error ++ between) ++ test_text r.place r.test ≡ explained_text e between
nothing_named e r between is w = rw (is, w, append-nil (test_text r.place r.test)) (append_assoc (refused_line r.error) between _)

found_other : (between : List ℕ) (w : Witness) → (w ≡ Witness.Nothing → ⊥) → found_text between w ≡ between ++ (codes "witness: " ++ witness_text w)
found_other between Witness.Nothing n = absurd (n refl)
found_other between (Witness.Component id) n = refl
found_other between (Witness.Dependency missing) n = refl
found_other between (Witness.Link link) n = refl
found_other between (Witness.Child id) n = refl
found_other between (Witness.Clash binding) n = refl
found_other between (Witness.Repeated repeat) n = refl
found_other between (Witness.Number measured) n = refl

regrouped : (a b c d e f : List ℕ) → ((((a ++ b) ++ c) ++ d) ++ e) ++ f ≡ a ++ (b ++ (c ++ (d ++ (e ++ f))))
regrouped a b c d e f = simp append_assoc

something_named : (e : Result (Unit {0}) Refusal) (r : Refusal) (between : List ℕ) → e ≡ Err r → (r.witness ≡ Witness.Nothing → ⊥) →
    ((((refused_line r.error ++ between) ++ test_text r.place r.test) ++ between) ++ codes "witness: ") ++ witness_text r.witness ≡ explained_text e between
something_named e r between is n =
    regrouped (refused_line r.error) between (test_text r.place r.test) between (codes "witness: ") (witness_text r.witness)
    ∙ rw (is, found_other between r.witness n) refl

pub returns-in-Nothing-clause-puts : goal.returns-in-Nothing-clause-puts
returns-in-Nothing-clause-puts c =
    let r : Refusal = c.in-Err.refusal in
    let between : List ℕ = c.args.between.now in
    let out : List ℕ = c.args.self.now.bytes.now in
    let at : ℕ = c.args.self.now.len in
    let e = nothing_named c.args.explanation.now r between c.in-Err.is c.in-Nothing.is in
    both c.show-refused.result c.show-tested.result c.show-refused.ensures.puts c.show-tested.ensures.puts
    (λ p q. subst (λ (l : List ℕ). Puts l out at c.show-tested.new.self.bytes.now c.show-tested.new.self.len) e
    (puts_then (refused_line r.error ++ between) (test_text r.place r.test) out at (puts_then (refused_line r.error) between out at p c.put-2.ensures.puts) q))

pub returns : goal.returns
returns c =
    let r : Refusal = c.in-Err.refusal in
    let between : List ℕ = c.args.between.now in
    let out : List ℕ = c.args.self.now.bytes.now in
    let at : ℕ = c.args.self.now.len in
    let e = something_named c.args.explanation.now r between c.in-Err.is c.in_default-witness.not-Nothing in
    let second : length c.put-2.new.self.bytes.now ≡ length c.show-refused.new.self.bytes.now = puts_length between _ _ c.put-2.ensures.puts in
    let third : length c.put-3.new.self.bytes.now ≡ length c.show-tested.new.self.bytes.now = puts_length between _ _ c.put-3.ensures.puts in
    let fourth : length c.put-4.new.self.bytes.now ≡ length c.put-3.new.self.bytes.now = puts_length (codes "witness: ") _ _ c.put-4.ensures.puts in
    let head : OnTrue (c.show-refused.result && c.show-tested.result)
    (Puts ((refused_line r.error ++ between) ++ test_text r.place r.test) out at c.show-tested.new.self.bytes.now c.show-tested.new.self.len) =
    both c.show-refused.result c.show-tested.result c.show-refused.ensures.puts c.show-tested.ensures.puts
    (λ p q. puts_then (refused_line r.error ++ between) (test_text r.place r.test) out at (puts_then (refused_line r.error) between out at p c.put-2.ensures.puts) q) in
    record {
      same_reference = cc;
      same_length = omega (arith, c.show-refused.ensures.same_length, c.show-tested.ensures.same_length, c.show-found.ensures.same_length);
      upper_bound = omega (arith, c.show-refused.ensures.same_length, c.show-tested.ensures.same_length, c.show-found.ensures.upper_bound);
      puts = both (c.show-refused.result && c.show-tested.result) c.show-found.result head c.show-found.ensures.puts
          (λ p q. subst (λ (l : List ℕ). Puts l out at c.show-found.new.self.bytes.now c.show-found.new.self.len) e
          (puts_then _ (witness_text r.witness) out at
          (puts_then _ (codes "witness: ") out at (puts_then ((refused_line r.error ++ between) ++ test_text r.place r.test) between out at p c.put-3.ensures.puts) c.put-4.ensures.puts)
          q));
    }
