-- What a read into the rest of a text leaves at the text's start, and a write behind another.
use Rattle.std.proofs.Common.{ℕ, ◌+◌, ◌≤◌, ◌≡◌, List, ◌++◌, length, take, sym, ap, ◌∙◌, length-take-le, Result, Ok}
use Rattle.std.proofs.Common.{Err, OnOk, IfSome, Some, subst}
use Rattle.std.specs.declared.option.Option.{Option}
use Rattle.std.specs.Io.KnownBytes.{Appends}
use Rattle.std.proofs.KnownBytes.{Appends-trans}
use lib.Seq.{take-append-add, take-append-le}
use borrow.Rule.Slice.PartMut.{put_mid, post_of}

pub joined : (a k n : ℕ) (xs ys : List ℕ) → a ≤ length xs → n ≤ length ys
    → take a xs ++ take n ys ≡ take (a + n) (put_mid a k xs ys)
joined a k n xs ys within fits =
    let front = take a xs in
    let long = length-take-le a xs within in
    ap (λ l. front ++ l) (sym (take-append-le n ys (post_of a k xs) fits))
    ∙ sym (take-append-add front (ys ++ post_of a k xs) n)
    ∙ ap (λ m. take (m + n) (put_mid a k xs ys)) long

-- what a format writes is behind what was written before, where it says so of options that are equal to its own
pub behind : {S T E : Type 0} (written : S → Option (List ℕ)) (s t : S) (r : Result T E) (a b c : Option (List ℕ))
    (xs ys : List ℕ) → s ≡ t → written t ≡ Some ys
    → Appends a b xs → OnOk r (IfSome (written s) (Appends b c)) → OnOk r (Appends a c (xs ++ ys))
behind written s t (Ok x) a b c xs ys e f p q = Appends-trans a b c xs ys p
    (subst (λ o. IfSome o (Appends b c)) (ap written e ∙ f) q)
behind written s t (Err x) a b c xs ys e f p q = tt
