-- The names of the logic that proofs use, passed on, so that a proof file has one line for them.
pub use Prim.Native.Nat.{◌*◌, ◌+◌, ◌-◌, ◌<◌, ◌≤◌, suc, zero, ℕ}
pub use borrow.Author.Rules.{rules}
pub use borrow.Author.Tests.{eq-eqb, eqb-false, eqb-true, le-leb, le-ltb, leb-false, leb-true, lt-leb, lt-ltb, ltb-false, ltb-true, ne_eqb, not-false, not-true}
pub use borrow.Fn.Kinds.{GoodsP}
pub use lib.Bits.{and_le_r, bit_or, or_add_and}
pub use lib.Dec.{eqb, leb, ltb}
pub use lib.ListN.{get_or-append as List·getD-append, get_or-eq_default as List·getD-eq-default, get_or-map as List·getD-map, drop, drop_of_length-le, get_or, get_or-replicate, length, length-append, length-drop, length-map, length-replicate, length-set, length-take, replicate, replicate-append-replicate, set, take, take-append-drop}
pub use lib.Seq.{append_snoc, drop-append-le, drop-append_seam, drop-cons, drop-drop, ext_get_or, get_or-append-add, get_or-append_seam, get_or_at, get_or-drop, get_or-set_other, get_or-set_same, get_or-take, length-take-le, set-append_left, set-append_seam, set_at, set_out, set-set, slice, slice-cons, take-add, take_all, take-append_seam, take-suc, take-suc-set}
pub use mathlib.Core.Bool.{Bool, beq as Bool·beq, not-not as Bool·not-not, ◌&&◌, ◌||◌, and_assoc, and_comm, and-false, and-true, cond, false, not, or-false, or-true, true, true≢false}
pub use mathlib.Core.List.Memᴰ.{append_cases as List·Memᴰ·append-cases}
pub use mathlib.Core.List.Memᴰ.{append_left as Memᴰ·append-left}
pub use mathlib.Core.List.Memᴰ.{append_right as Memᴰ·append-right}
pub use mathlib.Core.List.Memᴰ.{cases_cons as List·Memᴰ·cases-cons}
pub use mathlib.Core.List.Memᴰ.{cast as Memᴰ·cast}
pub use mathlib.Core.List.Memᴰ.{eq_of_singleton as List·Memᴰ·eq-of-singleton}
pub use mathlib.Core.List.Memᴰ.{head as List·Memᴰ·head}
pub use mathlib.Core.List.Memᴰ.{not-nil as List·Memᴰ·not-nil}
pub use mathlib.Core.List.Memᴰ.{tail as List·Memᴰ·tail}
pub use mathlib.Core.List.{List, Memᴰ as List-as-Memᴰ, [], ◌++◌, ◌∷◌, append_assoc, append-nil, cons≢nil, head-eq_of_cons-eq, map, map-append, map-id, map-map, nil≢cons, tail-eq_of_cons-eq}
pub use mathlib.Core.Logic.{◌↔◌, ◌⊎◌, inl, inr, ⊎_elim}
pub use mathlib.Core.Option.{Option, map as Option·map, none, some}
pub use mathlib.Core.Path.{◌∙◌, ◌≡◌, ap, refl, subst, sym}
pub use native.Mathlib.Decide.{dec_lt, ℕ_discrete}
pub use native.Mathlib.Nat.{add-zero, le_trans, min-le_left, zero-add}
pub use native.Mathlib.Numerals.{add-one}
pub use native.Mathlib.Omega.{arith}
