-- Samples: the request's example as it is printed, and logs whose answers tell how each command byte is read. Bytes are decimal here: 10 to 16 are 0A to 10.
use Rattle.std.specs.Prelude.{◌≡◌, ℕ, zero, suc, List, [], ◌∷◌, ◌++◌, map, replicate}
use Rattle.player.specs.Log.{port_at}
use Rattle.player.specs.Played.{fresh, played, turns}
use Rattle.player.specs.Printed.{lines_from, printed}

-- ---- rows

-- a command's bytes, and its answer
pub record Row : Type 0 where
  pub bytes : List ℕ
  pub answer : ℕ

infix 70 ◌gives◌
abbrev pub ◌gives◌ : List ℕ → ℕ → Row
bytes gives n = record { bytes = bytes; answer = n }

-- a command byte with one operand
abbrev pub call : ℕ → ℕ → List ℕ
call byte operand = byte ∷ operand ∷ []

-- sixteen bytes of a port: the first, zeros, the last
abbrev pub port : ℕ → ℕ → List ℕ
port first last = first ∷ replicate 14 0 ++ (last ∷ [])

abbrev A : List ℕ
A = port 7 1

-- their bytes
unfoldable pub log : List Row → List ℕ
log [] = []
log (r ∷ rs) = r.bytes ++ log rs

abbrev pub Holds : List Row → Type 0
Holds rs = played (log rs) ≡ map (λ r. r.answer) rs

-- ---- each command byte

-- 1 and 2: a port twice gives 5 and empties the lists; ports that differ in a byte are two; a dependency is provided or not
abbrev pub lists : List Row
lists =
    (1 ∷ A) gives 0 ∷ (1 ∷ A) gives 0 ∷ call 3 255 gives 5 ∷ call 3 255 gives 0 ∷
    (1 ∷ A) gives 0 ∷ (1 ∷ port 7 2) gives 0 ∷ call 3 255 gives 0 ∷ call 4 1 gives 4 ∷
    (2 ∷ A) gives 0 ∷ (2 ∷ port 7 2) gives 0 ∷ call 3 255 gives 0 ∷ call 4 2 gives 0 ∷ call 4 1 gives 4 ∷ call 5 2 gives 0 ∷ call 4 1 gives 0 ∷
    (2 ∷ A) gives 0 ∷ call 3 255 gives 5 ∷ (2 ∷ port 8 1) gives 0 ∷ call 3 255 gives 0 ∷ []

-- 3 with a parent that is absent, with none, with one that is present, then retired; one with a child is not removed
abbrev pub parents : List Row
parents = call 3 0 gives 1 ∷ call 3 255 gives 0 ∷ call 3 0 gives 0 ∷ call 8 0 gives 0 ∷ call 3 0 gives 3 ∷ call 11 0 gives 8 ∷ []

-- 4 to 6 and 8 to 11, each where it is done and where it is refused
abbrev pub lifecycle : List Row
lifecycle =
    call 3 255 gives 0 ∷ call 4 1 gives 1 ∷ call 5 0 gives 2 ∷ call 4 0 gives 0 ∷ call 4 0 gives 2 ∷ call 9 0 gives 2 ∷ call 5 0 gives 0 ∷
    call 5 0 gives 2 ∷ call 6 0 gives 0 ∷ call 6 0 gives 2 ∷ call 10 0 gives 2 ∷ call 9 0 gives 0 ∷ call 9 0 gives 2 ∷ call 10 0 gives 0 ∷
    call 10 0 gives 2 ∷ call 11 0 gives 2 ∷ call 8 0 gives 0 ∷ call 4 0 gives 3 ∷ call 11 0 gives 0 ∷ call 8 0 gives 1 ∷ []

-- 7 before its provider leaves and after; 12 and 13, each twice
abbrev pub changes : List Row
changes =
    (2 ∷ A) gives 0 ∷ call 3 255 gives 0 ∷ (1 ∷ A) gives 0 ∷ call 3 255 gives 0 ∷ call 4 0 gives 0 ∷ call 5 0 gives 0 ∷ call 4 1 gives 0 ∷
    call 7 1 gives 6 ∷ call 6 0 gives 0 ∷ call 9 0 gives 7 ∷ call 7 1 gives 0 ∷ call 9 1 gives 0 ∷ call 10 1 gives 0 ∷
    (12 ∷ []) gives 0 ∷ (12 ∷ []) gives 0 ∷ call 8 1 gives 0 ∷ call 11 1 gives 0 ∷ (13 ∷ []) gives 0 ∷ (13 ∷ []) gives 0 ∷ []

-- 14 and 15: the identity, then the port; another's is not released
abbrev pub provisions : List Row
provisions =
    call 3 255 gives 0 ∷ call 3 255 gives 0 ∷ (14 ∷ 0 ∷ A) gives 0 ∷ (14 ∷ 1 ∷ A) gives 5 ∷
    (15 ∷ 1 ∷ A) gives 0 ∷ (14 ∷ 1 ∷ A) gives 5 ∷ (15 ∷ 0 ∷ A) gives 0 ∷ (14 ∷ 1 ∷ A) gives 0 ∷ []

-- 16: the component depends on the pending dependencies; the pending provisions are dropped
abbrev pub configured : List Row
configured = call 3 255 gives 0 ∷ (1 ∷ A) gives 0 ∷ (2 ∷ A) gives 0 ∷ call 16 0 gives 0 ∷ call 4 0 gives 4 ∷ call 3 255 gives 0 ∷ (2 ∷ A) gives 0 ∷ call 3 255 gives 0 ∷ []

-- that many ports, none twice
unfoldable pub ports : ℕ → List ℕ
ports zero = []
ports (suc n) = (1 ∷ port n 0) ++ ports n

-- ---- the samples

pub record SamplesHold : Type 0 where
  -- 03 FF 04 00 05 00 05 00 prints "0 0", "1 0", "2 0", "3 2"; and two digits: "9 12", "10 0"
  pub request : printed (3 ∷ 255 ∷ 4 ∷ 0 ∷ 5 ∷ 0 ∷ 5 ∷ 0 ∷ []) ≡ 48 ∷ 32 ∷ 48 ∷ 10 ∷ 49 ∷ 32 ∷ 48 ∷ 10 ∷ 50 ∷ 32 ∷ 48 ∷ 10 ∷ 51 ∷ 32 ∷ 50 ∷ 10 ∷ []
  pub tens : lines_from 9 (12 ∷ 0 ∷ []) ≡ 57 ∷ 32 ∷ 49 ∷ 50 ∷ 10 ∷ 49 ∷ 48 ∷ 32 ∷ 48 ∷ 10 ∷ []
  -- the least byte first, the key before the realm
  pub little : port_at (0 ∷ 1 ∷ 2 ∷ replicate 6 0 ++ (3 ∷ 4 ∷ replicate 6 0)) 1 ≡ record { key = 513; realm = 1027 }
  -- in changes the inserts issue 0 and 1, and each compaction removes one record, then none
  pub details : map (λ t. t.detail) (turns fresh (log changes)) ≡ replicate 3 0 ++ (1 ∷ replicate 9 0) ++ (1 ∷ replicate 3 0) ++ (1 ∷ 0 ∷ [])
  pub lists : Holds lists
  pub parents : Holds parents
  pub lifecycle : Holds lifecycle
  pub changes : Holds changes
  pub provisions : Holds provisions
  pub configured : Holds configured
  -- 00 and 11 (hexadecimal) give 11 and end the run, also where nothing follows
  pub below : played (0 ∷ 3 ∷ 255 ∷ []) ≡ 11 ∷ []
  pub above : played (3 ∷ 255 ∷ 17 ∷ 3 ∷ 255 ∷ []) ≡ 0 ∷ 11 ∷ []
  pub alone : played (17 ∷ []) ≡ 11 ∷ []
  -- cut operands give 12
  pub cut : played (12 ∷ 4 ∷ []) ≡ 0 ∷ 12 ∷ []
  pub cut-port : played (3 ∷ 255 ∷ 14 ∷ 0 ∷ replicate 15 0) ≡ 0 ∷ 12 ∷ []
  -- a 33rd port gives 9, and the insert of the others is done
  pub full : played (ports 33 ++ call 3 255) ≡ replicate 32 0 ++ (9 ∷ 0 ∷ [])
