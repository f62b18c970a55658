-- How far a log is answered, and what a turn does to that.
use Rattle.std.proofs.Common.{ℕ, ◌+◌, ◌<◌, ◌≤◌, ◌≡◌, List, [], ◌++◌, length, take, drop, None}
use Rattle.std.proofs.Common.{Some, Result, Ok, Err, OnOk, Bool, true, false, ltb, refl, sym, ap, ◌∙◌, subst, arith}
use Rattle.std.proofs.Common.{append_assoc, append-nil, length-append, length-take, zero, suc, ◌∷◌}
use Rattle.std.specs.declared.option.Option.{Option}
use Rattle.std.specs.Io.KnownBytes.{Appends, Keeps, IsAtEnd, prepend_known, append_known}
use Rattle.std.proofs.KnownBytes.{Appends-trans, Appends-kept}
use Rattle.std.proofs.lemmas.List.{take-append-drop}
use borrow.Author.Tests.{ltb-false}
use Rattle.vocabulary.proofs.Choice.{picks_first, picks_second, cases}
use Rattle.vocabulary.specs.Choice.{pick}
use Rattle.turns.specs.Turns.{Turn}
use Rattle.hold.specs.Hold.{before, up_to}
use Rattle.hold.proofs.Texts.{up_to_inside}
use Rattle.feed.specs.Feed.{Desk, fed}
use Rattle.feed.proofs.Bytes.{fed_more}
use Rattle.input.specs.Input.{coming, Ends}
use Rattle.replay.specs.Replay.{last_end, answers}

-- some of the log is answered, a byte or more in each turn, and the rest is still to come
pub record Going (log : List ℕ) (start : Desk) (printed comes shown : Option (List ℕ)) (now : Desk) (turns : ℕ) :
    Type 0 where
  pub eaten : List ℕ
  pub rest : List ℕ
  pub coming : comes ≡ Some rest
  pub split : log ≡ eaten ++ rest
  pub each : turns ≤ length eaten
  pub says : Appends printed shown (fed eaten start).text
  pub left : now ≡ (fed eaten start).left

up_to_some : (t : List ℕ) → 0 < length t → 0 < up_to t
unfolding up_to
up_to_some t some =
    cases (ltb (before t) (length t))
    (λ e. rw (picks_first (before t + 1) (before t) e) (omega arith))
    (λ e. let all = ltb-false (before t) (length t) e in rw (picks_second (before t + 1) (before t) e) (omega arith))

keeps_some : (a : Option (List ℕ)) (rest : List ℕ) → Keeps (Some rest) a → a ≡ Some rest
keeps_some None rest p = absurd p
keeps_some (Some x) rest p = ap Some p

-- known bytes behind a text
pub record Behind (text : List ℕ) (a : Option (List ℕ)) (rest : List ℕ) : Type 0 where
  pub more : List ℕ
  pub is : a ≡ Some more
  pub split : text ++ more ≡ rest

some_of : (a : List ℕ) (b : List ℕ) → Some a ≡ Some b → a ≡ b
some_of a b e = cc

behind : (text : List ℕ) (a : Option (List ℕ)) (rest : List ℕ) → prepend_known text a ≡ Some rest → Behind text a rest
behind text None rest e = absurd (let z : ⊥ = cc in z)
behind text (Some x) rest e = record { more = x; is = refl; split = some_of (text ++ x) rest e }

at_end : (a : Option (List ℕ)) (more : List ℕ) → a ≡ Some more → IsAtEnd a → more ≡ []
at_end None more e p = absurd (let z : ⊥ = cc in z)
at_end (Some x) more e p = sym (some_of x more e) ∙ p

-- what the log's end puts to the board is taken whole
last_whole : (len : ℕ) → take (up_to (last_end len)) (last_end len) ≡ last_end len
unfolding up_to before pick
last_whole zero = refl
last_whole (suc len) = refl

pub last_line : (a b : Option (List ℕ)) (len : ℕ) (text : List ℕ) (d : Desk) → text ≡ last_end len
    → Appends a b (fed (take (up_to text) text) d).text → Appends a b (fed (last_end len) d).text
last_line a b len text d is h =
    subst (λ l. Appends a b (fed l d).text) (ap (λ t. take (up_to t) t) is ∙ last_whole len) h

-- where nothing is left to take
pub none_left : (t : List ℕ) (more : Bool) → more ≡ false → (0 < length t → more ≡ true) → t ≡ []
none_left [] more e h = refl
none_left (x ∷ xs) more e h = absurd (let t : more ≡ true = h (omega arith) in let z : ⊥ = cc in z)

pub ended : (more : Bool) (a : Option (List ℕ)) → more ≡ false → Ends more a → IsAtEnd a
ended false a e p = p
ended true a e p = absurd (let z : ⊥ = cc in z)

pub on_ok : {T E : Type 0} (r : Result T E) {P Q : Type 0} → (P → Q) → OnOk r P → OnOk r Q
on_ok (Ok x) f p = f p
on_ok (Err e) f p = tt

-- what waits is printed at the end
pub flushed : {T E : Type 0} (r : Result T E) (printed a b : Option (List ℕ)) (bytes waits : List ℕ)
    → Appends printed (append_known a waits) bytes → OnOk r (Appends a b waits)
    → OnOk r (Appends printed b bytes)
flushed (Err e) printed a b bytes waits p q = tt
flushed (Ok x) None a b bytes waits p q = tt
flushed (Ok x) (Some y) None b bytes waits p q = absurd p
flushed (Ok x) (Some y) (Some z) None bytes waits p q = absurd q
flushed (Ok x) (Some y) (Some z) (Some w) bytes waits p q = q ∙ p

module _ (log : List ℕ) (start : Desk) (printed : Option (List ℕ)) where
  -- at the start nothing is answered
  pub starts : (comes shown : Option (List ℕ)) → comes ≡ Some log → Appends printed shown []
      → Going log start printed comes shown start 0
  unfolding fed
  starts comes shown coming says = record
      { eaten = []; rest = log; coming = coming; split = refl; each = omega arith; says = says; left = refl }

  -- more bytes behind those that are answered
  told : (eaten more : List ℕ) (now : Desk) (shown shown' shown'' : Option (List ℕ))
      → Appends printed shown (fed eaten start).text → now ≡ (fed eaten start).left → Keeps shown shown'
      → Appends shown' shown'' (fed more now).text
      → Appends printed shown'' (fed (eaten ++ more) start).text
  told eaten more now shown shown' shown'' before_says left kept says =
      let all = Appends-trans printed shown' shown'' _ _ (Appends-kept printed shown shown' _ before_says kept) says in
      let same : (fed (eaten ++ more) start).text ≡ (fed eaten start).text ++ (fed more now).text =
      ap (λ (t : Turn Desk). t.text) (fed_more eaten more start)
      ∙ ap (λ d. (fed eaten start).text ++ (fed more d).text) (sym left) in
      subst (Appends printed shown'') (sym same) all

  module _ (before after shown shown' shown'' : Option (List ℕ)) (unread text : List ℕ) (now : Desk) (turns : ℕ)
      (kept : Keeps shown shown') (comes : Keeps (coming before unread) (coming after text)) where
    -- a turn takes a text up to its first LF
    pub goes_on : (now' : Desk) → 0 < length text
        → Appends shown' shown'' (fed (take (up_to text) text) now).text
        → now' ≡ (fed (take (up_to text) text) now).left
        → Going log start printed (coming before unread) shown now turns
        → Going log start printed (coming after (drop (up_to text) text)) shown'' now' (turns + 1)
    goes_on now' some says leaves g =
        let u : ℕ = up_to text in
        let comes' = keeps_some (coming after text) g.rest
        (subst (λ a. Keeps a (coming after text)) g.coming comes) in
        let found = behind text after g.rest comes' in
        let more = found.more in
        let split = sym found.split ∙ ap (λ l. l ++ more) (sym (take-append-drop u text))
        ∙ append_assoc (take u text) (drop u text) more in
        record {
          eaten = g.eaten ++ take u text;
          rest = drop u text ++ more;
          coming = ap (prepend_known (drop u text)) found.is;
          split = g.split ∙ ap (λ l. g.eaten ++ l) split
              ∙ sym (append_assoc g.eaten (take u text) (drop u text ++ more));
          each =
              omega (
                arith,
                length-append g.eaten (take u text),
                length-take u text,
                up_to_some text some,
                up_to_inside text,
                g.each,
              );
          says = told g.eaten (take u text) now shown shown' shown'' g.says g.left kept says;
          left =
              leaves ∙ ap (λ d. (fed (take u text) d).left) g.left
              ∙ sym (ap (λ (t : Turn Desk). t.left) (fed_more g.eaten (take u text) start));
        }

    -- the same of what is equal to those
    pub goes_on_at : (rest input : List ℕ) (n : ℕ) (now' : Desk) → rest ≡ text → n ≡ up_to rest
        → input ≡ drop n text → 0 < length text
        → Appends shown' shown'' (fed (take (up_to rest) rest) now).text
        → now' ≡ (fed (take (up_to rest) rest) now).left
        → Going log start printed (coming before unread) shown now turns
        → Going log start printed (coming after input) shown'' now' (turns + 1)
    goes_on_at rest input n now' is count taken some says leaves g =
        let e : input ≡ drop (up_to text) text = taken ∙ ap (λ k. drop k text) (count ∙ ap up_to is) in
        subst (λ i. Going log start printed (coming after i) shown'' now' (turns + 1)) (sym e)
        (goes_on now' some (subst (λ t. Appends shown' shown'' (fed (take (up_to t) t) now).text) is says)
        (subst (λ t. now' ≡ (fed (take (up_to t) t) now).left) is leaves) g)

    -- at the log's end a last line gets its LF
    pub ends : text ≡ [] → IsAtEnd after
        → Going log start printed (coming before unread) shown now turns
        → Appends shown' shown'' (fed (last_end now.hold.len) now).text
        → Appends printed shown'' (answers log start)
    ends none end g says =
        let comes' = keeps_some (coming after text) g.rest
        (subst (λ a. Keeps a (coming after text)) g.coming comes) in
        let found = behind text after g.rest comes' in
        let rest : g.rest ≡ [] = sym found.split ∙ (λ k. none k ++ at_end after found.more found.is end k) in
        let all : g.eaten ≡ log = sym (g.split ∙ ap (λ l. g.eaten ++ l) rest ∙ append-nil g.eaten) in
        let line : last_end now.hold.len ≡ last_end (fed log start).left.hold.len =
        ap (λ (d : Desk). last_end d.hold.len) (g.left ∙ ap (λ l. (fed l start).left) all) in
        subst (λ l. Appends printed shown'' (fed l start).text) (λ k. all k ++ line k)
        (told g.eaten (last_end now.hold.len) now shown shown' shown'' g.says g.left kept says)

-- a log has as many bytes as there are turns, or more, where the turns do not do
pub too_many : {log : List ℕ} {start : Desk} {printed comes shown : Option (List ℕ)} {now : Desk} {turns : ℕ} (n : ℕ)
    → Going log start printed comes shown now turns → length log < n → n ≤ turns → ⊥
too_many n g few all = omega (arith, ap length g.split, length-append g.eaten g.rest, g.each)
