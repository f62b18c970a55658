-- Runs: calls made one after another, each on the chip that the call before left. A chip gives its type (C), the type
-- of its calls (K) and what a call leaves and tells (`step`; every chip's is `called`). All here is of any chip.
use Rattle.std.specs.Prelude.{◌≡◌, Bool, false, List, [], ◌∷◌, ◌++◌, eqb}
use Rattle.vocabulary.specs.Choice.{pick}
use Rattle.vocabulary.specs.Outcome.{Outcome}
use Rattle.vocabulary.specs.Reply.{Reply, telling}

-- the calls of a list that are not of a kind, in their order
unfoldable pub besides : {K : Type 0} → (K → Bool) → List K → List K
besides kind [] = []
besides kind (k ∷ ks) = pick (kind k) (besides kind ks) (k ∷ besides kind ks)

module _ {C K : Type 0} (step : K → C → Outcome C) where
  -- the chip after a run
  unfoldable pub after : List K → C → C
  after [] c = c
  after (k ∷ ks) c = after ks (step k c).left

  -- what each call gives, by the chip that it is made on: all of it, in the calls' order
  unfoldable pub gathered : {A : Type 0} → (K → C → List A) → List K → C → List A
  gathered gives [] c = []
  gathered gives (k ∷ ks) c = gives k c ++ gathered gives ks (step k c).left

  -- what holds of every call and the chip that it is made on
  unfoldable pub Along : (K → C → Type 0) → List K → C → Type 0
  Along P [] c = Unit
  Along P (k ∷ ks) c = P k c × Along P ks (step k c).left

  -- a call that is not refused; a run of such; what an accepted call gives, a refused one giving nothing
  abbrev pub Accepted : K → C → Type 0
  Accepted k c = (step k c).refusal ≡ 0

  abbrev pub AllAccepted : List K → C → Type 0
  AllAccepted ks c = Along Accepted ks c

  abbrev pub where_accepted : {A : Type 0} → (K → C → List A) → K → C → List A
  where_accepted gives k c = pick (eqb (step k c).refusal 0) (gives k c) []

  -- a call's reply: refusal, value, count and line; those of a run
  abbrev pub reply_to : K → C → List Reply
  reply_to k c = telling (step k c) ∷ []

  abbrev pub replies : List K → C → List Reply
  replies ks c = gathered reply_to ks c

  -- what the calls that are not of a kind give, in a run that has others too; and their replies
  abbrev pub gathered_besides : {A : Type 0} → (K → Bool) → (K → C → List A) → List K → C → List A
  gathered_besides kind gives ks c = gathered (λ (k : K) (d : C). pick (kind k) [] (gives k d)) ks c

  abbrev pub replies_besides : (K → Bool) → List K → C → List Reply
  replies_besides kind ks c = gathered_besides kind reply_to ks c

  -- every call keeps what holds of the chip
  abbrev pub Keeps : (C → Type 0) → Type 0
  Keeps P = (k : K) (c : C) → P c → P (step k c).left

  -- Calls of a kind can't be noticed: two runs whose other calls are the same, in the same order, give those the same
  -- replies and end in the same chip.
  pub record Unnoticed (kind : K → Bool) : Type 0 where
    pub hears : (ks ls : List K) (c : C) → besides kind ks ≡ besides kind ls
        → replies_besides kind ks c ≡ replies_besides kind ls c
    pub ends : (ks ls : List K) (c : C) → besides kind ks ≡ besides kind ls → after ks c ≡ after ls c

-- Two chips, of one type or of two, related and under the same calls. Calls of a kind are apart: they may tell what
-- they like.
module _ {C D K : Type 0} (step : K → C → Outcome C) (other : K → D → Outcome D) (kind : K → Bool)
    (R : C → D → Type 0) where
  -- every call leaves them related, and tells the same of both
  pub record Alike : Type 0 where
    pub leaves : (k : K) (c : C) (d : D) → R c d → R (step k c).left (other k d).left
    pub tells : (k : K) (c : C) (d : D) → kind k ≡ false → R c d → telling (step k c) ≡ telling (other k d)

  -- hence over any run: related again after each call, and the same replies
  pub record RunsAlike : Type 0 where
    pub leaves : (ks : List K) (c : C) (d : D) → R c d → R (after step ks c) (after other ks d)
    pub replies : (ks : List K) (c : C) (d : D) → R c d
        → replies_besides step kind ks c ≡ replies_besides other kind ks d
