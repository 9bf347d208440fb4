-- `slices::port_list` meets its contract: the copied ports, and the blanks of the list behind them.
use Rattle.model.proofs.Logic.{List, ◌++◌, ◌≡◌, ◌≤◌, ◌<◌, arith, drop, length, replicate, take, ℕ}
use Rattle.std.proofs.lemmas.Grind.{common_steps}
use Rattle.std.proofs.lemmas.List.{drop-replicate}
use Rattle.model.specs.{Lists.padded, Records.blank_port, Sizes.list_limit, declared.Port.Port}
use Rattle.slices.proofs.port_list.Goals as goal

copied : {A : Type 0} (n k : ℕ) (d : A) (xs out : List A) → k ≤ n → k ≤ length xs → (k < length xs → k ≡ n) → out ≡ take k xs → out ++ drop k (replicate n d) ≡ take n (padded n d xs)
unfolding padded
copied n k d xs out l m w e = grind (arith, common_steps, drop-replicate)

pub returns : goal.returns
returns c =
    let ports = c.args.ports.now in
    let h : ◌≡◌ {A = List Port} (c.copy_from_slice.new.self ++ drop c.min-kept.result (replicate list_limit c.blank_port-list.result)) (take list_limit (padded list_limit blank_port ports)) =
    rw c.blank_port-list.ensures (copied list_limit c.min-kept.result blank_port ports _ (omega arith) (omega arith) (λ l. omega arith) c.copy_from_slice.ensures.after) in
    λ i. record { ports = h i; count = length ports }
