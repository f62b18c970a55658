-- The lines of the first calls: none, and one more.
use Rattle.std.proofs.Common.{ℕ, zero, suc, ◌+◌, ◌*◌, ◌≡◌, ◌<◌, ◌≤◌, List, [], ◌++◌, get_or, take, drop, refl, sym, ◌/◌, length}
use Rattle.std.proofs.Common.{ap, ◌∙◌, subst, add-one, arith}
use Rattle.std.proofs.lemmas.List.{get_or-take, drop-drop, length-take-le}
use lib.Seq.{get_or-drop}
use Rattle.std.specs.Simd.{first_chunks}
use Rattle.std.specs.declared.option.Option.{Option}
use Rattle.std.specs.Io.KnownBytes.{Appends}
use Rattle.std.proofs.KnownBytes.{Appends-nil, Appends-trans}
use Rattle.loadlist.specs.Listing.{line_of, call_lines}

no_calls : (calls : List ℕ) → call_lines 0 calls ≡ []
unfolding call_lines
no_calls calls = refl

one_more : (n : ℕ) (calls : List ℕ) → call_lines (n + 1) calls ≡ call_lines n calls ++ line_of
    (get_or calls (2 * n) 0) (get_or calls (2 * n + 1) 0)
unfolding call_lines
one_more n calls = rw (add-one n) refl

pub none_printed : (a : Option (List ℕ)) (calls : List ℕ) → Appends a a (call_lines 0 calls)
none_printed a calls = subst (Appends a a) (sym (no_calls calls)) (Appends-nil a)

-- a call's two bytes, where its pair stands
pair_at : (n i : ℕ) (calls d : List ℕ) → i < n → get_or (first_chunks 2 n calls) i d ≡ take 2 (drop (2 * i) calls)
pair_at zero i calls d h = absurd (let z : ⊥ = omega (arith, h) in z)
pair_at (suc n) zero calls d h = refl
pair_at (suc n) (suc i) calls d h =
    let more : 2 + 2 * i ≡ 2 * suc i = omega arith in
    pair_at n i (drop 2 calls) d (omega arith) ∙ ap (take 2) (drop-drop (2 * i) 2 calls ∙ ap (λ k. drop k calls) more)

byte_at : (i k : ℕ) (calls : List ℕ) → k < 2 → get_or (take 2 (drop (2 * i) calls)) k 0 ≡ get_or calls (2 * i + k) 0
byte_at i k calls h = get_or-take 2 (drop (2 * i) calls) k 0 h ∙ get_or-drop (2 * i) calls k 0

module _ (calls d : List ℕ) (pairs : List (List ℕ)) (i : ℕ) (are : pairs ≡ first_chunks 2 (length calls / 2) calls)
    (long : length pairs ≡ length calls / 2) (more : i < length pairs) where
  in_pair : (k : ℕ) → k < 2 → get_or (get_or pairs i d) k 0 ≡ get_or calls (2 * i + k) 0
  in_pair k h =
      ap (λ l. get_or (get_or l i d) k 0) are
      ∙ (ap (λ l. get_or l k 0) (pair_at (length calls / 2) i calls d (omega arith)) ∙ byte_at i k calls h)

  pub more_printed : (a b c : Option (List ℕ)) (line : List ℕ)
      → line ≡ line_of (get_or (get_or pairs i d) 0 0) (get_or (get_or pairs i d) 1 0)
      → Appends a b (call_lines i calls) → Appends b c line → Appends a c (call_lines (i + 1) calls)
  more_printed a b c line is before last =
      let none : 2 * i + 0 ≡ 2 * i = omega arith in
      let select : get_or (get_or pairs i d) 0 0 ≡ get_or calls (2 * i) 0 =
      in_pair 0 (omega arith) ∙ ap (λ k. get_or calls k 0) none in
      let text : line ≡ line_of (get_or calls (2 * i) 0) (get_or calls (2 * i + 1) 0) =
      is ∙ (λ k. line_of (select k) (in_pair 1 (omega arith) k)) in
      subst (Appends a c) (ap (λ l. call_lines i calls ++ l) text ∙ sym (one_more i calls))
      (Appends-trans a b c (call_lines i calls) line before last)

-- the lines of the first calls, of no more bytes than theirs
pub lines_within : (n m : ℕ) (calls : List ℕ) → 2 * n ≤ m → call_lines n (take m calls) ≡ call_lines n calls
unfolding call_lines
lines_within zero m calls h = refl
lines_within (suc n) m calls h =
    rw (
      lines_within n m calls (omega arith),
      get_or-take m calls (2 * n) 0 (omega arith),
      get_or-take m calls (2 * n + 1) 0 (omega arith),
    ) refl

pub lines_in_part : (n : ℕ) (calls : List ℕ) → 2 * n ≤ length calls
    → call_lines (length (take (2 * n) calls) / 2) (take (2 * n) calls) ≡ call_lines n calls
lines_in_part n calls h =
    let half : length (take (2 * n) calls) / 2 ≡ n = omega (arith, length-take-le (2 * n) calls h) in
    ap (λ k. call_lines k (take (2 * n) calls)) half ∙ lines_within n (2 * n) calls (omega arith)
