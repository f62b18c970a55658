-- What was read, as it is kept: a line for each key. Assumes nothing.
use Prim.Native.Nat.{ℕ, zero, suc, ◌+◌, ◌-◌, ◌≤◌, ◌<◌}
use mathlib.Core.Path.{◌≡◌, refl, sym, ap, ◌∙◌}
use mathlib.Core.List.{List, [], ◌∷◌, ◌++◌, append_assoc, append-nil}
use native.Mathlib.Numerals.{add-one}
use native.Mathlib.Omega.{arith}
use lib.ListN.{length, take, drop, set, replicate, length-set, take-append-drop, drop_of_length-le}
use lib.Seq.{take-add, take-suc-set, drop-set-lt, drop-drop}
use Rattle.std.specs.Prelude.{Option, Some, None}
use Rattle.sheet.specs.Sheet.{Line, keys, Reading, good, bad, read_from, sheet_of}
use Rattle.sheet.proofs.Apart.{nothing}
use Rattle.sheet_key.specs.declared.Found.{Found}
use Rattle.sheet_key.specs.Reader.{leads, after, on_from, Right}
use Rattle.sheet_key.proofs.Leads.{leads_append, leads_bad, leads_good, stop, skip}

-- a list of one line, cut
take_same : (m r : ℕ) (x : Line) → take m (replicate (m + r) x) ≡ replicate m x
take_same zero r x = refl
take_same (suc m) r x =
    let e : suc m + r ≡ suc (m + r) = omega arith in
    rw e (ap (λ (l : List Line). x ∷ l) (take_same m r x))

drop_same : (m r : ℕ) (x : Line) → drop m (replicate (m + r) x) ≡ replicate r x
drop_same zero r x = let e : 0 + r ≡ r = omega arith in rw e
drop_same (suc m) r x = let e : suc m + r ≡ suc (m + r) = omega arith in rw e (drop_same m r x)

-- What is read so far of a text: n - 1 lines, up to the place `at`, with the keys before `due`. From `due` on no line
-- is kept yet, and the sheet from there on, behind all that is kept, is the whole.
pub record SoFar (text : List ℕ) (kept : List Line) (due n at : ℕ) : Type 0 where
  pub keyed : due ≤ keys
  pub inside : at ≤ length text
  pub counted : n ≤ due + 1
  pub long : length kept ≡ keys
  pub rest : drop due kept ≡ replicate (keys - due) None
  pub whole : leads (take due kept) (read_from (keys - due) due n (drop at text)) ≡ sheet_of text

-- a line is kept, with those that are missing before it
module _ (text : List ℕ) (kept : List Line) (due n at k v : ℕ) (is : SoFar text kept due n at) (from : due ≤ k)
    (to : k < keys) where
  passed : take k kept ≡ take due kept ++ replicate (k - due) None
  passed =
      let e : k ≡ due + (k - due) = omega arith in
      let f : keys - due ≡ (k - due) + (keys - k) = omega arith in
      ap (λ (n : ℕ). take n kept) e ∙ take-add due (k - due) kept
      ∙ rw (is.rest, f, take_same (k - due) (keys - k) None)

  still_none : drop (k + 1) (set kept k (Some v)) ≡ replicate (keys - (k + 1)) None
  still_none =
      let e : k + 1 ≡ due + (k + 1 - due) = omega arith in
      let f : keys - due ≡ (k + 1 - due) + (keys - (k + 1)) = omega arith in
      drop-set-lt (k + 1) kept k (Some v) (omega arith) ∙ ap (λ (n : ℕ). drop n kept) e
      ∙ sym (drop-drop (k + 1 - due) due kept) ∙ rw (is.rest, f, drop_same (k + 1 - due) (keys - (k + 1)) None)

  keeps : take (k + 1) (set kept k (Some v)) ≡ take due kept ++ after (k - due) v
  keeps =
      let l : k < length kept = omega (arith, is.long) in
      rw (add-one, take-suc-set kept k (Some v) l, passed, append_assoc)

  kept_on : (next : ℕ) → next ≤ length text
      → read_from (keys - due) due n (drop at text)
      ≡ leads (after (k - due) v) (read_from (keys - (k + 1)) (k + 1) (n + 1) (drop next text))
      → SoFar text (set kept k (Some v)) (k + 1) (n + 1) next
  kept_on next inner e = record {
    keyed = omega arith;
    inside = inner;
    counted = omega (arith, is.counted);
    long = length-set kept k (Some v) ∙ is.long;
    rest = still_none;
    whole = rw keeps (leads_append (take due kept) (after (k - due) v) _ ∙ (rw e at is.whole));
  }

-- of a bad line its number, whatever is kept before it
is_bad_lem : (before : List Line) (n : ℕ) (r whole : Reading) → r ≡ bad n → leads before r ≡ whole → bad n ≡ whole
is_bad_lem before n r whole e f = sym (leads_bad before n) ∙ (rw e at f)

-- a line, by its answer
module _ (text : List ℕ) (kept : List Line) (due n at : ℕ) (is : SoFar text kept due n at) {x : Option Found}
    (r : Right text at due x) where
  pub reads_on : {f : Found} → x ≡ Some f → SoFar text (set kept f.key (Some f.value)) (f.key + 1) (n + 1) f.next
  unfolding on_from
  reads_on {f} e =
      let s = rw e at r in
      kept_on text kept due n at f.key f.value is s.0.0 s.0.1 f.next s.0.3 (s.1 n)

  pub reads_bad : x ≡ None → bad n ≡ sheet_of text
  unfolding on_from
  reads_bad e = is_bad_lem (take due kept) n _ _ ((rw e at r).1 n) is.whole

-- the end of the text
module _ (due n : ℕ) where
  end_bad : due < 5 → read_from (keys - due) due n [] ≡ bad n
  end_bad h =
      let e : keys - due ≡ suc (keys - (due + 1)) = omega arith in
      rw e (stop due n [] (keys - (due + 1)) (nothing due) h)

  end_good : 5 ≤ due → read_from (keys - due) due n [] ≡ good (replicate (keys - due) None)
  unfolding read_from
  end_good h =
      let e : keys - due ≡ (keys - due) + 0 = omega arith in
      ap (λ (m : ℕ). read_from m due n []) e
      ∙ skip (keys - due) 0 due n [] h (λ j l m. nothing j)
      ∙ leads_good (replicate (keys - due) None) []
      ∙ ap good (append-nil (replicate (keys - due) None))

module _ (text : List ℕ) (kept : List Line) (due n at : ℕ) (is : SoFar text kept due n at) (end : length text ≤ at)
  where
    pub ends_bad : due < 5 → bad n ≡ sheet_of text
    ends_bad h = is_bad_lem (take due kept) n _ _ (rw (drop_of_length-le text end) (end_bad due n h)) is.whole

    pub ends_good : 5 ≤ due → good kept ≡ sheet_of text
    ends_good h =
        let r : read_from (keys - due) due n (drop at text) ≡ good (replicate (keys - due) None) =
        rw (drop_of_length-le text end) (end_good due n h) in
        let all : take due kept ++ replicate (keys - due) None ≡ kept =
        rw (sym is.rest) (take-append-drop due kept) in
        sym (sym (rw r at is.whole) ∙ leads_good (take due kept) (replicate (keys - due) None) ∙ ap good all)
