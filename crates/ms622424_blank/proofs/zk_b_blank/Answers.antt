-- The tables as arrays hold what was lent (`IsWholeChunk`). A length or a range gives the refusal (`tried`), else all
-- is in range; too many slots are refused (`blank_too_many`), else the transfer leaves what blanking does
-- (`blank_does`).
use Rattle.std.proofs.Common.{refl, arith}
use Rattle.ms622424.specs.Ms622424.{blanks}
use Rattle.ms622424.proofs.InRange.{tried}
use Rattle.ms622424.proofs.Blank.{blank_too_many, blank_does}
use Rattle.ms622424_places.specs.Places.{handed, view}
use Rattle.ms622424_places.proofs.Does.{refuses, accepts}
use Rattle.ms622424_range.proofs.Standing.{short_stands, arrays_outside, arrays_in_range}
use Rattle.ms622424_blank.proofs.zk_b_blank.Goals as goal

pub returns-in_default : goal.returns-in_default
returns-in_default c =
    refuses _ _ _ _ _ c.refused_for.ensures
    (tried (blanks c.args.slots) (view (handed c.args.s c.args.queue.now c.args.map.now)) 1 refl refl
    (short_stands _ (λ l n. c.in_default.ensures.cases l)) (λ e. omega arith))

pub returns-in_default-as_mut_array : goal.returns-in_default-as_mut_array
returns-in_default-as_mut_array c =
    refuses _ _ _ _ _ c.refused_for-in_default-as_mut_array.ensures
    (tried (blanks c.args.slots) (view (handed c.args.s c.args.queue.now c.args.map.now)) 1 refl refl
    (short_stands _ (λ l n. c.in_default-as_mut_array.ensures.cases n)) (λ e. omega arith))

pub returns-then-not-in_range : goal.returns-then-not-in_range
returns-then-not-in_range c =
    let w = c.in-Some.ensures.cases in
    let v = c.in-Some-as_mut_array.ensures.cases in
    rw v.same
    (refuses _ _ _ _ _ c.refused_for-then-not-in_range.ensures
    (tried (blanks c.args.slots) (view (handed c.args.s c.args.queue.now c.args.map.now)) 9 refl refl
    (arrays_outside c.args.s c.args.queue.now c.args.map.now _ _ w v _ c.in_range.ensures c.if-not-in_range.true)
    (λ e. omega arith)))

pub returns-then-slots-gt65535 : goal.returns-then-slots-gt65535
returns-then-slots-gt65535 c =
    let w = c.in-Some.ensures.cases in
    let v = c.in-Some-as_mut_array.ensures.cases in
    let h =
    arrays_in_range c.args.s c.args.queue.now c.args.map.now _ _ w v _ c.in_range.ensures c.if-not-in_range.false in
    rw v.same (refuses _ _ _ _ _ c.refused_for-then-slots-gt65535.ensures (blank_too_many _ _ h (omega arith)))

pub transfer-m-requires : goal.transfer-m-requires
transfer-m-requires c =
    let w = c.in-Some.ensures.cases in
    let v = c.in-Some-as_mut_array.ensures.cases in
    rw (w.same, v.same)
    (arrays_in_range c.args.s c.args.queue.now c.args.map.now _ _ w v _ c.in_range.ensures c.if-not-in_range.false)

pub returns : goal.returns
returns c =
    let w = c.in-Some.ensures.cases in
    let v = c.in-Some-as_mut_array.ensures.cases in
    let h =
    arrays_in_range c.args.s c.args.queue.now c.args.map.now _ _ w v _ c.in_range.ensures c.if-not-in_range.false in
    accepts _ _ _ _ _ _ _ c.accepted.ensures
    (blank_does _ _ h (omega arith) (rw (w.same, v.same) at c.transfer-m.ensures))
