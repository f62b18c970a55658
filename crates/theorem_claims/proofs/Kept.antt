-- No chip locks itself out: each chip's own laws, gathered. Assumes nothing.
use mathlib.Core.Path.{◌≡◌, sym, subst}
use mathlib.Core.Bool.{false}
use native.Mathlib.Omega.{arith}
use Rattle.vocabulary.specs.Outcome.{Outcome}
use Rattle.vocabulary.specs.Run.{Accepted}
use Rattle.vocabulary.proofs.Range.{passes_holds, holds_passes}
use Rattle.vocabulary.proofs.Face.{called_clear, called_does}
use Rattle.hd153108.specs.Hd153108 as A
use Rattle.hd153108.proofs.InRange as AR
use Rattle.hd153108.proofs.Keep as AK
use Rattle.ms622424.specs.Ms622424 as B
use Rattle.ms622424.proofs.InRange as BR
use Rattle.ms622424.proofs.Kept as BK
use Rattle.rgb640.specs.Rgb640 as C
use Rattle.rgb640.proofs.InRange as CR
use Rattle.theorem_claims.specs.Kept.{NoneLockedOut}

-- ---- an accepted reset
a_restores : (c : A.Chip) → A.short c ≡ false → Accepted A.called A.resets c → A.InRange (A.called A.resets c).left
a_restores c s e =
    subst (λ (o : Outcome A.Chip). A.InRange o.left) (sym (called_does A.refusals A.does A.resets c e))
    (AK.reset_in_range c (passes_holds _ s))

b_restores : (c : B.Chip) → B.short c ≡ false → Accepted B.called B.resets c → B.InRange (B.called B.resets c).left
b_restores c s e =
    let (places, (size, _)) = passes_holds _ s in
    let (_, (kept, _)) = called_clear B.refusals B.does B.resets c e in
    subst (λ (o : Outcome B.Chip). B.InRange o.left) (sym (called_does B.refusals B.does B.resets c e))
    (BK.fresh_in_range c places size (passes_holds _ kept))

c_restores : (c : C.Chip) → C.short c ≡ false → Accepted C.called C.resets c → C.InRange (C.called C.resets c).left
c_restores c s e =
    let lengths = passes_holds _ s in
    subst (λ (o : Outcome C.Chip). C.InRange o.left) (sym (called_does C.refusals C.does C.resets c e))
    (search arith)

-- ---- the chips together
pub none_locked_out : NoneLockedOut
none_locked_out = record {
  a = record {
    clear = λ c g. (AR.not_short c g, AR.not_outside c g);
    keeps = AK.called_keeps_range;
    restores = a_restores;
  };
  b = record {
    clear = λ c g. (BR.lengths_right c g, BR.ranges_right c g);
    keeps = BK.called_keeps_range;
    restores = b_restores;
  };
  c = record {
    clear = λ c g. let (l, r) = CR.range_holds c g in (holds_passes _ l, holds_passes _ r);
    keeps = CR.called_keeps_range;
    restores = c_restores;
  };
}
