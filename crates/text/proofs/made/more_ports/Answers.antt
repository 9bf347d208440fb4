-- `text::made::more_ports` meets its contract: each turn stores one port more and takes the key a step on.
use Rattle.std.proofs.Common.{◌%◌, ◌^◌}
use Rattle.model.proofs.Logic.{◌+◌, ◌-◌, ◌<◌, ◌∙◌, ◌≡◌, ◌≤◌, ap, arith, dec_lt, get_or, get_or-set_other, get_or-set_same, length, length-set, refl, set, suc, ℕ}
use Rattle.model.specs.{Records.blank_port, Sizes.list_limit, declared.PortList.PortList}
use Rattle.text.proofs.{made.more_ports.Invariants.Stored}
use Rattle.text.proofs.made.more_ports.Goals as goal
use Rattle.text.specs.Made.{port_for, stepped}

begins : (list : PortList) (first realm step : ℕ) → length list.ports ≡ list_limit → Stored list first realm step list first list.count
unfolding stepped
begins list first realm step s = record {
  next = let e : 0 ≡ list.count - list.count = omega arith in ap (stepped first step) e;
  counted = refl;
  sized = s;
  kept = λ j l. refl;
  added = λ j l m. let z : ⊥ = omega arith in absurd z;
}

turned : {list : PortList} {first realm step : ℕ} {more : PortList} {key i : ℕ} → list.count ≤ i → i < list_limit → Stored list first realm step more key i
    → Stored list first realm step (record { ports = set more.ports i (port_for key realm); count = more.count }) ((key + step) % 2 ^ 64) (i + 1)
unfolding stepped
turned {list} {first} {realm} {step} {more} {key} {i} b l s = record {
  next = let n : suc (i - list.count) ≡ (i + 1) - list.count = omega arith in
      ap (λ (x : ℕ). (x + step) % 2 ^ 64) s.next ∙ ap (stepped first step) n;
  counted = s.counted;
  sized = length-set more.ports i (port_for key realm) ∙ s.sized;
  kept = λ j m. get_or-set_other more.ports i j (port_for key realm) blank_port (λ (q : j ≡ i). omega arith) ∙ s.kept j m;
  added = λ j m n. go j m n (dec_lt j i);
}
  where
    go : (j : ℕ) → list.count ≤ j → j < i + 1 → Dec (j < i) → get_or (set more.ports i (port_for key realm)) j blank_port ≡ port_for (stepped first step (j - list.count)) realm
    go j m n (yes b) = get_or-set_other more.ports i j (port_for key realm) blank_port (λ (q : j ≡ i). omega arith) ∙ s.added j m b
    go j m n (no b) =
        let q : j ≡ i = omega arith in
        rw q (get_or-set_same more.ports i (port_for key realm) blank_port (omega (arith, s.sized)) ∙ ap (λ (x : ℕ). port_for x realm) s.next)

pub loop-i-init : goal.loop-i-init
loop-i-init c =
    let sized : length c.args.list.ports ≡ list_limit = omega arith in
    begins c.args.list c.args.key c.args.realm c.args.step sized

pub loop-i-preserved : goal.loop-i-preserved
loop-i-preserved c = turned c.loop-i.auto.i c.loop-i-test.true c.loop-i.invariant

pub returns : goal.returns
returns c =
    let s = c.loop-i.invariant in
    record { counted = rw s.counted; kept = s.kept; added = λ i m n. s.added i m (omega arith) }
