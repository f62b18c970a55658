-- When more may be read, and what comes: of an input, the bytes that were read and are not yet taken.
use Rattle.std.specs.Prelude.{ℕ, ◌<◌, ◌≡◌, Bool, IsTrue, ◌↔◌, true, false, List, [], length}
use Rattle.std.specs.declared.option.Option.{Option}
use Rattle.std.specs.Io.KnownBytes.{IsAtEnd, prepend_known}

-- all that was read is taken, and nothing of what that answered waits
pub record Answered (unread waits : List ℕ) : Type 0 where
  pub taken : unread ≡ []
  pub printed : waits ≡ []

-- where something is left to take that is all; where nothing is, what waits is printed; and whether there is something
-- to take then
pub record Next (unread unread' waits waits' : List ℕ) (some : Bool) : Type 0 where
  pub left : 0 < length unread → (unread' ≡ unread) × (waits' ≡ waits)
  pub printed : unread ≡ [] → waits' ≡ []
  pub more : IsTrue some ↔ (0 < length unread')

-- ---- The bytes themselves, for a reader that says which it has left

-- all that is not yet taken: what was read, and behind that what is still to be read
abbrev pub coming : Option (List ℕ) → List ℕ → Option (List ℕ)
coming remaining unread = prepend_known unread remaining

-- where there is nothing to take, the reader has nothing left
abbrev pub Ends : Bool → Option (List ℕ) → Type 0
Ends true remaining = Unit
Ends false remaining = IsAtEnd remaining
