-- What a text is, said without the order in which the grammar reads it: which texts are good sheets, with which lines,
-- and which line of any other text is the bad one. Document 01, "The sheet and its calls". The theorem is `grammar`
-- (proofs/Grammar.antt): `sheet_of` meets `ReadsSheets`; and no other reading does (`one_reading`).
use Rattle.std.specs.Prelude.{ℕ, zero, suc, ◌+◌, ◌-◌, ◌^◌, ◌<◌, ◌≤◌, ◌≡◌, true, false, List, [], ◌∷◌, eqb, length}
use Rattle.vocabulary.specs.Choice.{pick}
use Rattle.sheet.specs.Sheet.{Line}
use Rattle.std.specs.Prelude.{Some, None}
use Rattle.sheet.specs.Sheet.{keys, key_at, width, takes, required, Reading, good, bad, text_from}

-- ---- A good sheet

-- what the lines from key k on may be: a value that the key takes, of no more digits; or missing, where it may be
abbrev pub Lawful : ℕ → List Line → Type 0
Lawful k [] = Unit
Lawful k (Some v ∷ l) = (v < 16 ^ width (key_at k)) × (takes (key_at k) v ≡ true) × Lawful (k + 1) l
Lawful k (None ∷ l) = (required (key_at k) ≡ false) × Lawful (k + 1) l

-- the text t is that of lawful lines l, one for each of the `more` keys from key k on
pub record Sound (more k : ℕ) (t : List ℕ) (l : List Line) : Type 0 where
  pub long : length l ≡ more
  pub lawful : Lawful k l
  pub text : text_from k l ≡ t

-- a sheet: a line for each of the 265 keys, there or missing, the five first there, and the text is those lines' text
abbrev pub IsSheet : List ℕ → List Line → Type 0
IsSheet t l = Sound keys 0 t l

-- ---- The first bad or missing line

-- the first n lines of a text, each with its LF; all of the text where it has no more
unfoldable pub first_lines : List ℕ → ℕ → List ℕ
first_lines [] n = []
first_lines (b ∷ t) zero = []
first_lines (b ∷ t) (suc n) = b ∷ first_lines t (pick (eqb b 10) n (suc n))

-- a text begins as a sheet for n lines: there is a sheet with the same first n lines
pub record Begins (n : ℕ) (t : List ℕ) : Type 0 where
  pub sheet : List ℕ
  pub lines : List Line
  pub is : IsSheet sheet lines
  pub same : first_lines sheet n ≡ first_lines t n

-- Line n is the first bad or missing one: some sheet has the same lines before it, and none has the same lines up to
-- it. So a required line that is not there has the number where it should stand, since every sheet goes on with it; so
-- a line behind the last key, and a last line without LF, is bad, since no sheet has it.
pub record BadAt (n : ℕ) (t : List ℕ) : Type 0 where
  pub counted : 1 ≤ n
  pub before : Begins (n - 1) t
  pub none : Begins n t → ⊥

-- ---- The statement, of any reading of texts: good exactly when, bad exactly when

pub record ReadsSheets (reads : List ℕ → Reading) : Type 0 where
  pub good_only : (t : List ℕ) (l : List Line) → reads t ≡ good l → IsSheet t l
  pub good_where : (t : List ℕ) (l : List Line) → IsSheet t l → reads t ≡ good l
  pub bad_only : (t : List ℕ) (n : ℕ) → reads t ≡ bad n → BadAt n t
  pub bad_where : (t : List ℕ) (n : ℕ) → BadAt n t → reads t ≡ bad n
