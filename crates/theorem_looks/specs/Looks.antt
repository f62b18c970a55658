-- LOOKS CAN'T BE NOTICED (request P5): "Two runs of accepted or refused calls that differ only in looks put in
-- anywhere, the panel's call list being the same, give the panel's calls the same answers and end in the same state
-- and tables; looks themselves may differ with when they are made." That sentence is `Unnoticed` of Run.antt, of any
-- chip; here it is of the three. Below it stand two uses, on chip A.
use Rattle.std.specs.Prelude.{ℕ, zero, suc, ◌<◌, ◌≡◌, true, List, [], ◌∷◌, ◌++◌, map}
use Rattle.vocabulary.specs.Outcome.{Outcome, accepting}
use Rattle.vocabulary.specs.Run.{besides, after, replies_besides, Unnoticed}
use Rattle.hd153108.specs.Hd153108 as A
use Rattle.hd153108.specs.Hd153108.{Chip, nibble, colour_at, InRange, writes, reads, looks, is_look, called}
use Rattle.ms622424.specs.Ms622424 as B
use Rattle.ms622424_places.specs.Places.{Handed, Does, SameInUse}
use Rattle.rgb640.specs.Rgb640 as C
use Rattle.sheet.specs.Sheet.{Line}
use Rattle.sheet.specs.Sheet.{sheet_of, good}
use Rattle.calls.specs.Calls.{Call, calls_of}
use Rattle.theorem_load.specs.Load.{Leaves}

-- ---- The theorem

-- chip B as a caller keeps it: the state, the map and the waiting places. What the places hold that no entry waits in
-- is promised of no accepted call (request P7)
pub record KeptUnnoticed (step : B.Call → Handed → Outcome Handed) : Type 0 where
  pub hears : (ks ls : List B.Call) (h : Handed) → besides B.is_look ks ≡ besides B.is_look ls
      → replies_besides step B.is_look ks h ≡ replies_besides step B.is_look ls h
  pub ends : (ks ls : List B.Call) (h : Handed) → besides B.is_look ks ≡ besides B.is_look ls
      → SameInUse (after step ks h) (after step ls h)

-- on any chip whatever; of chip B as a caller keeps it too, for any code that keeps its promise
pub record LooksUnnoticed : Type 0 where
  -- a look is what each chip calls so
  pub named : (place : ℕ)
      → (A.is_look (A.looks place) ≡ true) × (B.is_look (B.looks place) ≡ true) × (C.is_look (C.looks place) ≡ true)
  pub a : Unnoticed A.called A.is_look
  pub b : Unnoticed B.called B.is_look
  pub c : Unnoticed C.called C.is_look
  pub b_kept : (step : B.Call → Handed → Outcome Handed)
      → ((k : B.Call) (h : Handed) → Does h (step k h) (B.called k)) → KeptUnnoticed step

-- ---- The bench tool's story

-- a colour as the panel writes it: the address, then red, green and blue
abbrev pub colour_calls : ℕ → ℕ → ℕ → ℕ → List A.Call
colour_calls address r g b = writes 0 address ∷ writes 1 r ∷ writes 1 g ∷ writes 1 b ∷ []

-- the colour is the panel's, and every other entry is as it was
pub record Stored (address r g b : ℕ) (before after : Chip) : Type 0 where
  pub entry : colour_at address after.colours ≡ nibble r ∷ nibble g ∷ nibble b ∷ []
  pub others : (e : ℕ) → ¬ (address ≡ e) → colour_at e after.colours ≡ colour_at e before.colours

-- nothing is stored: green has landed as red, and blue as green
pub record Torn (g b : ℕ) (before after : Chip) : Type 0 where
  pub colours : after.colours ≡ before.colours
  pub red : after.state.red ≡ nibble g
  pub green : after.state.green ≡ nibble b

-- on any chip in range, with any bytes
pub record Story (address r g b : ℕ) (c : Chip) : Type 0 where
  -- address, red, a look at the address, green, blue; the look answers the address
  pub looked : Stored address r g b c
      (after called (writes 0 address ∷ writes 1 r ∷ looks 0 ∷ writes 1 g ∷ writes 1 b ∷ []) c)
  pub tells : let d = after called (writes 0 address ∷ writes 1 r ∷ []) c in
      called (looks 0) d ≡ accepting address 0 d
  -- the same with a read of the address in place of the look
  pub read : Torn g b c (after called (writes 0 address ∷ writes 1 r ∷ reads 0 ∷ writes 1 g ∷ writes 1 b ∷ []) c)
  -- and with looks at any places, as many as one likes
  pub anywhere : (run : List A.Call) → besides is_look run ≡ colour_calls address r g b
      → Stored address r g b c (after called run c)

abbrev pub Stories : Type 0
Stories =
    (address r g b : ℕ) (c : Chip) → InRange c → address < 256 → r < 256 → g < 256 → b < 256 → Story address r g b c

-- ---- A load with looks

-- a call of a load's list, as the chip's
abbrev pub panel : Call → A.Call
panel k = writes k.select k.byte

-- calls put in before each of a list, and after the last
unfoldable pub amid : List A.Call → List A.Call → List A.Call
amid others [] = others
amid others (k ∷ ks) = others ++ (k ∷ amid others ks)

-- a look at every place of chip A: all lie below 0x1300
unfoldable pub below : ℕ → List ℕ
below zero = []
below (suc n) = below n ++ (n ∷ [])

abbrev pub every_place : List A.Call
every_place = map looks (below 0x1300)

-- the load leaves what it leaves without looks (`LoadsSheets` of theorem_load)
pub record LoadsLooked (lines : List Line) (c : Chip) : Type 0 where
  pub between : Leaves lines c (after called (amid every_place (map panel (calls_of lines))) c)
  pub anywhere : (run : List A.Call) → besides is_look run ≡ map panel (calls_of lines)
      → Leaves lines c (after called run c)

abbrev pub LoadsWithLooks : Type 0
LoadsWithLooks = (text : List ℕ) (lines : List Line) (c : Chip) → sheet_of text ≡ good lines → InRange c
    → LoadsLooked lines c
