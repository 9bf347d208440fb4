-- What is said of a log's next command, by its item.
use Rattle.model.proofs.Logic.{List, ◌<◌, ◌∙◌, ◌≡◌, ap, drop, get_or, length, refl, suc, ℕ}
use Rattle.player.specs.{Played.Item, Played.State, Played.Turn, Played.item, Played.taken, Played.turns}
use Rattle.reasons.specs.{Reasons.said_in, Reasons.said_of}
use Rattle.player.proofs.{Laws.Runs.first-turn}

-- a turn's item is the one that was taken
pub taken_item : (s : State) (n : ℕ) (i : Item) → (taken s n i).item ≡ i
unfolding taken
taken_item s n (Item.dependency p) = refl
taken_item s n (Item.provision p) = refl
taken_item s n (Item.plain c) = refl
taken_item s n (Item.listing c) = refl
taken_item s n Item.unknown = refl
taken_item s n Item.cut = refl

-- at the state's place
pub said_here : (s : State) (log : List ℕ) → s.at < length log → said_in s (turns s log) 0 ≡ said_of s (item s (get_or log s.at 0) (drop (suc s.at) log))
unfolding said_in
said_here s log h = ap (λ (ts : List Turn). said_in s ts 0) (first-turn s log h) ∙ ap (said_of s) (taken_item s _ _)
