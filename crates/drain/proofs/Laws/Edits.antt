-- The laws of an array edited in place.
use Rattle.loops.proofs.Laws.Edit.{edited-next, edited-whole}

pub ruleset in_place = (edited-next, edited-whole)
