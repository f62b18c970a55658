-- Calls that chip A accepts, from one chip to another. Assumes nothing.
use Prim.Native.Nat.{ℕ, ◌<◌}
use mathlib.Core.Path.{◌≡◌, refl, sym, ap, ◌∙◌}
use mathlib.Core.List.{List, [], ◌∷◌, ◌++◌}
use Rattle.vocabulary.specs.Outcome.{Outcome}
use Rattle.vocabulary.specs.Run.{after, Along, Accepted}
use Rattle.vocabulary.proofs.Run.{after_append, along_append, run_keeps}
use Rattle.hd153108.specs.Hd153108.{Chip, register_at, written, InRange, writes}
use Rattle.hd153108.proofs.Access.{Served, writing as a_write, access_goes}
use Rattle.hd153108.proofs.Keep.{called_keeps_range, does_accepts}
use Rattle.calls.specs.Calls.{Call, call}
use Rattle.theorem_load.specs.Load.{writing, making, made, AllAccepted}

-- these calls run from here to there, all accepted
pub record Runs (ks : List Call) (c d : Chip) : Type 0 where
  pub accepted : AllAccepted writing ks c
  pub leads : made writing ks c ≡ d

pub none : (c : Chip) → Runs [] c c
unfolding after Along
none c = record { accepted = tt; leads = refl }

-- a call, with what it does to the chip
pub one : (select b : ℕ) (c : Chip) {d : Chip} → InRange c → Served select → b < 256
    → (written (register_at select) b c).left ≡ d → Runs (call select b ∷ []) c d
unfolding after Along
one select b c g h l e =
    let goes = sym (access_goes c g (a_write {select = select} l) h) in
    record {
      accepted = (ap (λ (o : Outcome Chip). o.refusal) goes ∙ does_accepts (writes select b) c, tt);
      leads = ap (λ (o : Outcome Chip). o.left) goes ∙ e;
    }

-- what they lead to is in range
pub runs_in_range : {ks : List Call} {c d : Chip} → InRange c → Runs ks c d → InRange d
runs_in_range {ks} {c} g r =
    rw r.leads at
    (run_keeps (making writing) InRange (λ k d. called_keeps_range (writes k.select k.byte) d) ks c g)

-- calls, and then more from where they lead
pub next : {ks ls : List Call} {c d e : Chip} → InRange c → Runs ks c d → (InRange d → Runs ls d e)
    → Runs (ks ++ ls) c e
next {ks} {ls} {c} g r f =
    let on = f (runs_in_range g r) in
    let rest : AllAccepted writing ls (made writing ks c) = rw r.leads on.accepted in
    record {
      accepted = along_append (making writing) (Accepted (making writing)) ks ls c r.accepted rest;
      leads = after_append (making writing) ks ls c ∙ (ap (made writing ls) r.leads ∙ on.leads);
    }
