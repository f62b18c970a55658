-- What is printed of an input's first bytes.
use Rattle.std.proofs.Common.{ℕ, ◌<◌, ◌≤◌, ◌≡◌, List, ◌++◌, length, take, replicate, None, Some, IfSome, Result, Ok}
use Rattle.std.proofs.Common.{Err, OnOk, sym, ap, ◌∙◌, subst, append-nil, take_all}
use Rattle.std.proofs.lemmas.Bool.{cases_lt}
use Rattle.std.proofs.lemmas.List.{take-append-le}
use mathlib.Core.Logic.{⊎_elim}
use Rattle.std.specs.declared.option.Option.{Option}
use Rattle.std.specs.Io.KnownBytes.{Appends, Consumes, IsAtEnd}
use Rattle.sheet.specs.Sheet.{Answer, outcome}
use Rattle.calls.specs.Calls.{sheet_to_calls}
use Rattle.loadlist.specs.Listing.{listing, Prints}

-- a reader gave up to so many bytes, and fewer only at its end
pub taken_first : (most : ℕ) (before after : Option (List ℕ)) (bytes : List ℕ) (P : List ℕ → Type 0)
    → length bytes ≤ most → Consumes before after bytes
    → (length bytes < most → IsAtEnd after) → P bytes → IfSome before (λ input. P (take most input))
taken_first most None after bytes P fits read end h = tt
taken_first most (Some input) None bytes P fits read end h = absurd read
taken_first most (Some input) (Some more) bytes P fits read end h = ⊎_elim
    (λ short. subst P (sym (ap (take most) (read ∙ ap (λ l. bytes ++ l) (end short) ∙ append-nil bytes)
    ∙ take_all most bytes fits)) h)
    (λ full. subst P (sym (ap (take most) read ∙ take-append-le most bytes more full ∙ take_all most bytes fits)) h)
    (cases_lt (length bytes) most)

pub loads : {T E : Type 0} (r : Result T E) (before after old new : Option (List ℕ)) (bytes calls : List ℕ)
    (a : Answer) → length bytes ≤ 4096
    → Consumes before after bytes → (length bytes < 4096 → IsAtEnd after)
    → outcome a calls ≡ sheet_to_calls bytes (replicate 1572 0)
    → OnOk r (Appends old new (listing a calls)) → OnOk r (IfSome before (λ input. Prints old new (take 4096 input)))
loads (Ok x) before after old new bytes calls a fits read end is printed =
    taken_first 4096 before after bytes (Prints old new) fits read end record
    { answer = a; calls = calls; is = is; printed = printed }
loads (Err e) before after old new bytes calls a fits read end is printed = tt
