-- `reasons::said::why_next` meets its contract.
use Rattle.std.proofs.Common.{inl, inr}
use Rattle.model.proofs.Logic.{List, ◌<◌, ◌∙◌, ◌≡◌, ap, arith, drop, false, get_or, length, suc, sym, true, ℕ}
use Rattle.player.specs.{Log.operand_length, Played.Item, Played.State, Played.Turn, Played.is_unknown, Played.item, Played.turns, Players.state_of}
use Rattle.reasons.specs.{Reasons.said_in, Reasons.said_of}
use Rattle.player.proofs.{Laws.Lent.all_there, Laws.Lent.behind-lent, Laws.Lent.is_known, Laws.Lent.is_not-known, Laws.Lent.lent-is, Laws.Lent.short, Laws.Runs.ended, Laws.Turns.cut-item, Laws.Turns.unknown-item, Laws.Turns.whole_item}
use Rattle.reasons.proofs.{Laws.Reasons.said_here}
use Rattle.reasons.proofs.said.why_next.Goals as goal

-- what is said of this item
by : (s : State) (log : List ℕ) → s.at < length log → {i : Item} → item s (get_or log s.at 0) (drop (suc s.at) log) ≡ i → said_of s i ≡ said_in s (turns s log) 0
by s log h e = sym (said_here s log h ∙ ap (said_of s) e)

pub returns-in_default : goal.returns-in_default
unfolding said_in
returns-in_default c =
    sym (ap (λ (ts : List Turn). said_in (state_of c.args.player.now) ts 0) (ended (state_of c.args.player.now) c.args.log.now c.in_default.ensures.lookup.3))

pub returns-then-not-is_command : goal.returns-then-not-is_command
returns-then-not-is_command c =
    let found = c.in-Some.ensures.lookup.3 in
    let u : is_unknown (get_or c.args.log.now c.args.player.now.at 0) ≡ true = sym (ap is_unknown (found.1 0)) ∙ is_not-known _ c.if-not-is_command.ensures in
    by (state_of c.args.player.now) c.args.log.now found.0 (unknown-item _ _ _ u)

pub returns-in_default-get : goal.returns-in_default-get
returns-in_default-get c =
    let s : State = state_of c.args.player.now in
    let log : List ℕ = c.args.log.now in
    let found = c.in-Some.ensures.lookup.3 in
    let u : is_unknown (get_or log s.at 0) ≡ false = sym (ap is_unknown (found.1 0)) ∙ is_known _ c.if-not-is_command.ensures in
    let e : c.length_of-length.result ≡ operand_length (get_or log s.at 0) = c.length_of-length.ensures ∙ ap operand_length (found.1 0) in
    let less : length (behind-lent log s.at _ e) < c.length_of-length.result = elim c.in_default-get.ensures.lookup.0 [ inl l ↦ absurd (omega arith) | inr l ↦ l ] in
    by s log found.0 (cut-item _ _ _ u (short log s.at _ e less))

pub returns : goal.returns
returns c =
    let s : State = state_of c.args.player.now in
    let log : List ℕ = c.args.log.now in
    let found = c.in-Some.ensures.lookup.3 in
    let known = is_known _ c.if-not-is_command.ensures in
    let u : is_unknown (get_or log s.at 0) ≡ false = sym (ap is_unknown (found.1 0)) ∙ known in
    let e : c.length_of-length.result ≡ operand_length (get_or log s.at 0) = c.length_of-length.ensures ∙ ap operand_length (found.1 0) in
    let lent = c.in-Some-get.ensures.lookup.0 in
    c.why_item.ensures known ∙ by s log found.0 (whole_item s _ _ u (all_there log s.at _ e lent.1) (lent-is log s.at _ e lent.2) _ (sym (found.1 0)))
