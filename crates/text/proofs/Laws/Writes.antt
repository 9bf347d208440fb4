-- Text written by calls of `write_str`: what they put stands one behind another.
use Rattle.std.proofs.Common.{Err, IfSome, None, Ok, OnOk, Option, Result, Some, is_ok}
use Rattle.model.proofs.Logic.{List, [], ◌∷◌, ◌∙◌, ◌≡◌, Bool, arith, false, refl, subst, true, ℕ}
use Rattle.std.specs.Bool.{OnTrue}
use Rattle.std.specs.Fmt.{WritesInCalls, WritesText}
use Rattle.std.specs.declared.fmt.Error.{Error}
use Rattle.std.specs.List.{FoldsTo, concat}
use Rattle.text.specs.declared.Text.{Text}
use Rattle.text.specs.Written.{Puts}
use Rattle.text.proofs.Laws.Written.{puts_none, puts_then}

-- what one call does
abbrev pub Wrote : Text → List ℕ → Text → Type 0
Wrote s bytes t = Puts bytes s.bytes.now s.len t.bytes.now t.len × (t.bytes.ghost_name ≡ s.bytes.ghost_name)

wrote_parts : (s : Text) (parts : List (List ℕ)) (t : Text) → FoldsTo Wrote s parts t → Wrote s (concat parts) t
wrote_parts s [] t e = subst (Wrote s []) e (puts_none s.bytes.now s.len (omega arith), refl)
wrote_parts s (part ∷ parts) t (m, first, more) =
    let rest : Wrote m (concat parts) t = wrote_parts m parts t more in
    (puts_then part (concat parts) s.bytes.now s.len first.0 rest.0, rest.1 ∙ first.1)

pub wrote-calls : (s : Text) (bytes : List ℕ) (t : Text) → WritesInCalls Wrote s bytes t → Wrote s bytes t
wrote-calls s bytes t w = subst (λ (l : List ℕ). Wrote s l t) w.whole (wrote_parts s w.parts t w.calls)

-- what a value prints, if it prints itself to its end, stands in the buffer that the text was made of
pub shown-puts :
    (r : Result (Unit {0}) Error) (shown : Bool) (o : Option (List ℕ)) (s t : Text) (out out' : List ℕ) (at at' : ℕ)
    → shown ≡ is_ok r → OnOk r (WritesText Wrote s o t) → s.bytes.now ≡ out → s.len ≡ at → at' ≡ t.len → (t.bytes.ghost_name ≡ s.bytes.ghost_name → out' ≡ t.bytes.now)
    → OnTrue shown (IfSome o (λ text. Puts text out at out' at'))
shown-puts r false o s t out out' at at' e w a b d back = tt
shown-puts (Err error) true o s t out out' at at' e w a b d back = cc
shown-puts (Ok done) true None s t out out' at at' e w a b d back = tt
shown-puts (Ok done) true (Some text) s t out out' at at' e w a b d back =
    let p : Wrote s text t = wrote-calls s text t w in
    let f : out' ≡ t.bytes.now = back p.1 in
    rw (f, d, ← a, ← b) p.0
