-- `Player::play_on` meets its contract: the turns so far are those of the log's first commands.
use Rattle.std.proofs.Common.{inl, inr, rules}
use Rattle.model.proofs.Logic.{List, ◌+◌, ◌-◌, ◌<◌, ◌∙◌, ◌≡◌, ap, arith, drop, get_or, length, length-set, refl, suc, sym, ℕ}
use Rattle.kernel.proofs.{Laws.Handed.compaction-returned, Laws.Handed.insert-returned, Laws.Handed.returned}
use Rattle.model.specs.{Commands.Command, declared.Parent.Parent, declared.Port.Port}
use Rattle.player.specs.{Log.operand_length, Log.parent_of, Log.port_at, Played.Item, Played.State, Played.item, Played.meanings, declared.commands.Player.Player}
use Rattle.player.proofs.{Laws.Lent.all_there, Laws.Lent.behind-lent, Laws.Lent.is_known, Laws.Lent.is_not-known, Laws.Lent.lent-is, Laws.Lent.short, Laws.Playing.playing-last, Laws.Playing.playing_full, Laws.Playing.playing_over, Laws.Playing.playing_start, Laws.Playing.playing-steps, Laws.Playing.state, Laws.Runs.ended, Laws.Turns.Steps, Laws.Turns.compaction-done, Laws.Turns.cut-turn, Laws.Turns.dependency-steps, Laws.Turns.insert-done, Laws.Turns.listing-done, Laws.Turns.plain_done, Laws.Turns.provision-steps, Laws.Turns.sixteenth, Laws.Turns.unknown-turn, Laws.Turns.whole_item}
use Rattle.player.proofs.commands.Player.play_on.Goals as goal
use Rattle.player.proofs.commands.Player.play_on.Goals.{in-1, in-2, in-3, in-4, in-5, in-6, in-7, in-8, in-9, in-10, in-11, in-12, in-13, in-14, in-15, in_default-byte, Joined-byte, else-loop-at-test, then-loop-at-test+then-answers-answered, then-loop-at-test+else-answers-answered+then-not-is_command, then-loop-at-test+else-answers-answered+else-not-is_command+in_default}

pub loop-at-init : goal.loop-at-init
loop-at-init c = (omega arith, omega arith, playing_start _ _ _)

-- where the loop's head stands
abbrev at : Joined-byte → State
at c = state c.loop-at.self.kernel c.loop-at.self.dependencies c.loop-at.self.provisions c.loop-at.at

-- the byte there, and those behind it
abbrev byte : Joined-byte → ℕ
byte c = get_or c.args.log.now c.loop-at.at 0

abbrev behind : Joined-byte → List ℕ
behind c = drop (suc c.loop-at.at) c.args.log.now

abbrev operands : Joined-byte → List ℕ
operands c = c.in-Some.operands.now

-- what a player that is told whole has of each part that a turn changes
kernel : {p q : Player} → p ≡ q → p.kernel ≡ q.kernel
kernel e = ap (λ (p : Player). p.kernel) e

dependencies : {p q : Player} → p ≡ q → p.dependencies ≡ q.dependencies
dependencies e = ap (λ (p : Player). p.dependencies) e

provisions : {p q : Player} → p ≡ q → p.provisions ≡ q.provisions
provisions e = ap (λ (p : Player). p.provisions) e

-- the turn that the arm of this byte made
arm : (c : Joined-byte) → Steps (at c) (byte c) (behind c) c.match-byte.self.kernel c.match-byte.self.dependencies c.match-byte.self.provisions c.match-byte.detail c.match-byte.answer
arm c =
    let s : State = at c in
    let b : ℕ = byte c in
    let rest : List ℕ = behind c in
    let os : List ℕ = operands c in
    let id : ℕ = c.identity-id.result in
    let size = c.length_of-length.ensures in
    let known = is_known _ c.if-not-is_command.ensures in
    -- the item of the byte whose number is n
    let meant : (n : ℕ) → b ≡ n → item s b rest ≡ get_or (meanings s os) (n - 1) Item.unknown =
    λ n e. whole_item s b rest known (all_there c.args.log.now c.loop-at.at _ size c.in-Some.ensures.lookup.0.1) (lent-is c.args.log.now c.loop-at.at _ size c.in-Some.ensures.lookup.0.2) n e in
    -- of the identity that was read
    let of : (f : ℕ → Item) → f (get_or os 0 0) ≡ f id = λ f. ap f (sym c.identity-id.ensures) in
    let insert : Parent → Command = λ q. Command.insert q s.dependencies s.provisions in
    let inserts : b ≡ 3 → (q : Parent) → q ≡ parent_of (get_or os 0 0) → item s b rest ≡ Item.listing (insert q) =
    λ e q p. meant 3 e ∙ ap (λ (q : Parent). Item.listing (insert q)) (sym p) in
    -- of the identity and the port behind it
    let with-port : (f : ℕ → Port → Command) (p : Port) → p ≡ port_at os 1 → Item.plain (f (get_or os 0 0) (port_at os 1)) ≡ Item.plain (f id p) =
    λ f p e. of (λ n. Item.plain (f n (port_at os 1))) ∙ ap (λ (x : Port). Item.plain (f id x)) (sym e) in
    elim c.match-byte.branch [
      | in-1 w ↦
          dependency-steps s b rest w.port_at.result
          (meant 1 w.in-1.is ∙ ap Item.dependency (sym w.port_at.ensures))
          (kernel w.self-is) (dependencies w.self-is ∙ w.add.ensures.added) (provisions w.self-is) w.detail-is (w.answer-is ∙ w.answer_number-answer.ensures ∙ w.add.ensures.answer)
      | in-2 w ↦
          provision-steps s b rest w.port_at-in-2.result
          (meant 2 w.in-2.is ∙ ap Item.provision (sym w.port_at-in-2.ensures))
          (kernel w.self-is) (dependencies w.self-is) (provisions w.self-is ∙ w.add-in-2.ensures.added) w.detail-is (w.answer-is ∙ w.answer_number-answer-in-2.ensures ∙ w.add-in-2.ensures.answer)
      | in-3 w ↦
          insert-done s b rest (insert w.parent.result) (λ T. refl) (insert-returned _ _ w.insert_in-issued.ensures.does w.insert_in-issued.ensures.refused)
          (w.answer-is ∙ w.answer_number-answer-in-3.ensures) (w.detail-is ∙ w.detail_of-detail.ensures) (inserts w.in-3.is w.parent.result w.parent.ensures)
          (kernel w.self-is) (dependencies w.self-is) (provisions w.self-is)
      | in-4 w ↦
          plain_done s b rest (Command.begin id) (λ T. refl) (returned _ _ w.begin_in.ensures.does w.begin_in.ensures.refused)
          (w.answer-is ∙ w.answer_number-answer-in-4.ensures) w.detail-is (meant 4 w.in-4.is ∙ of (λ n. Item.plain (Command.begin n)))
          (kernel w.self-is) (dependencies w.self-is) (provisions w.self-is)
      | in-5 w ↦
          plain_done s b rest (Command.finish id) (λ T. refl) (returned _ _ w.finish_in.ensures.does w.finish_in.ensures.refused)
          (w.answer-is ∙ w.answer_number-answer-in-5.ensures) w.detail-is (meant 5 w.in-5.is ∙ of (λ n. Item.plain (Command.finish n)))
          (kernel w.self-is) (dependencies w.self-is) (provisions w.self-is)
      | in-6 w ↦
          plain_done s b rest (Command.leave id) (λ T. refl) (returned _ _ w.leave_in.ensures.does w.leave_in.ensures.refused)
          (w.answer-is ∙ w.answer_number-answer-in-6.ensures) w.detail-is (meant 6 w.in-6.is ∙ of (λ n. Item.plain (Command.leave n)))
          (kernel w.self-is) (dependencies w.self-is) (provisions w.self-is)
      | in-7 w ↦
          plain_done s b rest (Command.leave_if_changed id) (λ T. refl) (returned _ _ w.leave_if_changed_in.ensures.does w.leave_if_changed_in.ensures.refused)
          (w.answer-is ∙ w.answer_number-answer-in-7.ensures) w.detail-is (meant 7 w.in-7.is ∙ of (λ n. Item.plain (Command.leave_if_changed n)))
          (kernel w.self-is) (dependencies w.self-is) (provisions w.self-is)
      | in-8 w ↦
          plain_done s b rest (Command.retire id) (λ T. refl) (returned _ _ w.retire_in.ensures.does w.retire_in.ensures.refused)
          (w.answer-is ∙ w.answer_number-answer-in-8.ensures) w.detail-is (meant 8 w.in-8.is ∙ of (λ n. Item.plain (Command.retire n)))
          (kernel w.self-is) (dependencies w.self-is) (provisions w.self-is)
      | in-9 w ↦
          plain_done s b rest (Command.begin_cleanup id) (λ T. refl) (returned _ _ w.begin_cleanup_in.ensures.does w.begin_cleanup_in.ensures.refused)
          (w.answer-is ∙ w.answer_number-answer-in-9.ensures) w.detail-is (meant 9 w.in-9.is ∙ of (λ n. Item.plain (Command.begin_cleanup n)))
          (kernel w.self-is) (dependencies w.self-is) (provisions w.self-is)
      | in-10 w ↦
          plain_done s b rest (Command.finish_cleanup id) (λ T. refl) (returned _ _ w.finish_cleanup_in.ensures.does w.finish_cleanup_in.ensures.refused)
          (w.answer-is ∙ w.answer_number-answer-in-10.ensures) w.detail-is (meant 10 w.in-10.is ∙ of (λ n. Item.plain (Command.finish_cleanup n)))
          (kernel w.self-is) (dependencies w.self-is) (provisions w.self-is)
      | in-11 w ↦
          plain_done s b rest (Command.remove id) (λ T. refl) (returned _ _ w.remove_in.ensures.does w.remove_in.ensures.refused)
          (w.answer-is ∙ w.answer_number-answer-in-11.ensures) w.detail-is (meant 11 w.in-11.is ∙ of (λ n. Item.plain (Command.remove n)))
          (kernel w.self-is) (dependencies w.self-is) (provisions w.self-is)
      | in-12 w ↦
          compaction-done s b rest Command.compact_bindings (λ T. refl) (compaction-returned _ _ w.compact_bindings_in-removed.ensures.does w.compact_bindings_in-removed.ensures.refused)
          (w.answer-is ∙ w.answer_number-answer-in-12.ensures) (w.detail-is ∙ w.detail_of-detail-in-12.ensures) (meant 12 w.in-12.is)
          (kernel w.self-is) (dependencies w.self-is) (provisions w.self-is)
      | in-13 w ↦
          compaction-done s b rest Command.compact_declarations (λ T. refl) (compaction-returned _ _ w.compact_declarations_in-removed.ensures.does w.compact_declarations_in-removed.ensures.refused)
          (w.answer-is ∙ w.answer_number-answer-in-13.ensures) (w.detail-is ∙ w.detail_of-detail-in-13.ensures) (meant 13 w.in-13.is)
          (kernel w.self-is) (dependencies w.self-is) (provisions w.self-is)
      | in-14 w ↦
          plain_done s b rest (Command.declare_provision id w.port_at-in-14.result) (λ T. refl) (returned _ _ w.declare_provision_in.ensures.does w.declare_provision_in.ensures.refused)
          (w.answer-is ∙ w.answer_number-answer-in-14.ensures) w.detail-is
          (meant 14 w.in-14.is ∙ with-port Command.declare_provision w.port_at-in-14.result w.port_at-in-14.ensures)
          (kernel w.self-is) (dependencies w.self-is) (provisions w.self-is)
      | in-15 w ↦
          plain_done s b rest (Command.release_provision id w.port_at-in-15.result) (λ T. refl) (returned _ _ w.release_provision_in.ensures.does w.release_provision_in.ensures.refused)
          (w.answer-is ∙ w.answer_number-answer-in-15.ensures) w.detail-is
          (meant 15 w.in-15.is ∙ with-port Command.release_provision w.port_at-in-15.result w.port_at-in-15.ensures)
          (kernel w.self-is) (dependencies w.self-is) (provisions w.self-is)
      | in_default-byte w ↦
          listing-done s b rest (Command.configure_pending_dependencies id s.dependencies) (λ T. refl) (returned _ _ w.configure_pending_dependencies_in-configured.ensures.does w.configure_pending_dependencies_in-configured.ensures.refused)
          (w.answer-is ∙ w.answer_number-answer-in_default-byte.ensures) w.detail-is
          (meant 16 (sixteenth b known (search rules)) ∙ of (λ n. Item.listing (Command.configure_pending_dependencies n s.dependencies)))
          (kernel w.self-is) (dependencies w.self-is) (provisions w.self-is)
    ]

pub loop-at-preserved : goal.loop-at-preserved
loop-at-preserved c =
    let place : c.loop-at.at + (1 + c.length_of-length.result) ≡ c.loop-at.at + suc (operand_length (byte c)) = omega (arith, c.length_of-length.ensures) in
    (simp length-set (omega arith), simp length-set (omega arith), playing-steps c.args.log.now c.loop-at.invariant.2 (omega arith) (omega arith) (arm c) place)

-- the four ends: the log's, no room for an answer, a byte that is no command, operands that are cut
pub returns-clause-plays : goal.returns-clause-plays
returns-clause-plays c =
    elim c.loop-at-test.branch [
      | else-loop-at-test w ↦ rw (w.answers-is, w.answered-is, w.detail-is) (playing_over c.loop-at.invariant.2 (ended _ c.args.log.now w.loop-at-test.false))
      | then-loop-at-test+then-answers-answered w ↦
          rw (w.answers-is, w.answered-is, w.detail-is) (playing_full c.loop-at.invariant.2 (omega (arith, w.if-answers-answered.true, c.loop-at.invariant.0)))
      | then-loop-at-test+else-answers-answered+then-not-is_command w ↦
          rw (w.answers-is, w.answered-is, w.detail-is)
          (playing_over
          (playing-last c.args.log.now c.loop-at.invariant.2 (omega (arith, w.loop-at-test.true)) (omega (arith, w.if-answers-answered.false, c.loop-at.invariant.0))
          (unknown-turn _ _ _ (is_not-known _ w.if-not-is_command.ensures)) refl)
          refl)
      | then-loop-at-test+else-answers-answered+else-not-is_command+in_default w ↦
          let less : length (behind-lent c.args.log.now c.loop-at.at _ w.length_of-length.ensures) < w.length_of-length.result =
          elim w.in_default.ensures.lookup.0 [ inl l ↦ absurd (omega arith) | inr l ↦ l ] in
          let cut = short c.args.log.now c.loop-at.at _ w.length_of-length.ensures less in
          rw (w.answers-is, w.answered-is, w.detail-is)
          (playing_over
          (playing-last c.args.log.now c.loop-at.invariant.2 (omega (arith, w.loop-at-test.true)) (omega (arith, w.if-answers-answered.false, c.loop-at.invariant.0))
          (cut-turn _ _ _ (is_known _ w.if-not-is_command.ensures) cut) refl)
          refl)
    ]
