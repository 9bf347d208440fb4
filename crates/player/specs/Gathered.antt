-- Bytes put into a lent slice one behind another.
use Rattle.std.specs.Prelude.{◌≡◌, ◌≤◌, length}
use Rattle.player.specs.declared.put.Bytes.{Bytes}

-- more is put, or nothing: the slice is the one that was lent and as long as it was, and what is put ends within it
abbrev pub Gathers : Bytes → Bytes → Type 0
Gathers before after =
    (after.0.bytes.ghost_name ≡ before.0.bytes.ghost_name) × (length after.0.bytes.now ≡ length before.0.bytes.now) × (after.0.len ≤ length before.0.bytes.now)
