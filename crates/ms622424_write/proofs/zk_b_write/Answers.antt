-- The tables as arrays hold what was lent (`IsWholeChunk`). A length or a range gives the refusal (`tried`), else all
-- is in range; then by the select, each arm by its call's promise. A select that no arm names can't be written
-- (`not_written`).
use Rattle.std.proofs.Common.{rules, ◌≡◌, refl, arith}
use Rattle.ms622424.specs.Ms622424.{writes, register_at, writable, written}
use Rattle.ms622424.proofs.InRange.{tried}
use Rattle.ms622424.proofs.Write.{write_does, not_written}
use Rattle.ms622424_places.specs.Places.{handed, view}
use Rattle.ms622424_places.proofs.Does.{refuses, accepts}
use Rattle.ms622424_range.proofs.Standing.{short_stands, arrays_outside, arrays_in_range}
use Rattle.ms622424_write.proofs.zk_b_write.Goals as goal

pub returns-in_default : goal.returns-in_default
returns-in_default c =
    refuses _ _ _ _ _ c.refused_for.ensures
    (tried (writes c.args.select c.args.byte) (view (handed c.args.s c.args.queue.now c.args.map.now)) 1 refl refl
    (short_stands _ (λ l n. c.in_default.ensures.cases l)) (λ e. omega arith))

pub returns-in_default-as_mut_array : goal.returns-in_default-as_mut_array
returns-in_default-as_mut_array c =
    let w = c.in-Some.ensures.cases in
    rw w.same
    (refuses _ _ _ _ _ c.refused_for-in_default-as_mut_array.ensures
    (tried (writes c.args.select c.args.byte) (view (handed c.args.s c.args.queue.now c.args.map.now)) 1 refl refl
    (short_stands _ (λ l n. c.in_default-as_mut_array.ensures.cases n)) (λ e. omega arith)))

pub returns-then-not-in_range : goal.returns-then-not-in_range
returns-then-not-in_range c =
    let w = c.in-Some.ensures.cases in
    let v = c.in-Some-as_mut_array.ensures.cases in
    rw (w.same, v.same)
    (refuses _ _ _ _ _ c.refused_for-then-not-in_range.ensures
    (tried (writes c.args.select c.args.byte) (view (handed c.args.s c.args.queue.now c.args.map.now)) 9 refl refl
    (arrays_outside c.args.s c.args.queue.now c.args.map.now _ _ w v _ c.in_range.ensures c.if-not-in_range.true)
    (λ e. omega arith)))

pub write_palette-requires : goal.write_palette-requires
write_palette-requires c =
    let w = c.in-Some.ensures.cases in
    let v = c.in-Some-as_mut_array.ensures.cases in
    rw (w.same, v.same)
    (arrays_in_range c.args.s c.args.queue.now c.args.map.now _ _ w v _ c.in_range.ensures c.if-not-in_range.false)

pub returns-in-0 : goal.returns-in-0
returns-in-0 c =
    let e : c.args.select ≡ 0 = omega arith in
    let w = c.in-Some.ensures.cases in
    let v = c.in-Some-as_mut_array.ensures.cases in
    rw (e, w.same, v.same)
    (c.set_address_low.ensures _ _
    (arrays_in_range c.args.s c.args.queue.now c.args.map.now _ _ w v _ c.in_range.ensures c.if-not-in_range.false))

pub returns-in-1 : goal.returns-in-1
returns-in-1 c =
    let e : c.args.select ≡ 1 = omega arith in
    let w = c.in-Some.ensures.cases in
    let v = c.in-Some-as_mut_array.ensures.cases in
    rw (e, w.same, v.same)
    (c.set_address_high.ensures _ _
    (arrays_in_range c.args.s c.args.queue.now c.args.map.now _ _ w v _ c.in_range.ensures c.if-not-in_range.false))

pub returns-in-2 : goal.returns-in-2
returns-in-2 c =
    let e : c.args.select ≡ 2 = omega arith in
    let w = c.in-Some.ensures.cases in
    let v = c.in-Some-as_mut_array.ensures.cases in
    rw e (rw (w.same, v.same) at c.write_palette.ensures)

pub returns-in-3 : goal.returns-in-3
returns-in-3 c =
    let e : c.args.select ≡ 3 = omega arith in
    let w = c.in-Some.ensures.cases in
    let v = c.in-Some-as_mut_array.ensures.cases in
    rw (e, w.same, v.same)
    (c.set_command.ensures _ _
    (arrays_in_range c.args.s c.args.queue.now c.args.map.now _ _ w v _ c.in_range.ensures c.if-not-in_range.false))

pub returns-in-7 : goal.returns-in-7
unfolding register_at writable written
returns-in-7 c =
    let w = c.in-Some.ensures.cases in
    let v = c.in-Some-as_mut_array.ensures.cases in
    let h =
    arrays_in_range c.args.s c.args.queue.now c.args.map.now _ _ w v _ c.in_range.ensures c.if-not-in_range.false in
    rw (w.same, v.same)
    (accepts _ _ _ _ _ _ _ c.accepted.ensures (write_does _ _ _ h (search rules) 7 (omega arith) refl refl refl))

pub returns-in_default-select : goal.returns-in_default-select
returns-in_default-select c =
    let d = c.in_default-select in
    let w = c.in-Some.ensures.cases in
    let v = c.in-Some-as_mut_array.ensures.cases in
    let h =
    arrays_in_range c.args.s c.args.queue.now c.args.map.now _ _ w v _ c.in_range.ensures c.if-not-in_range.false in
    rw (w.same, v.same)
    (refuses _ _ _ _ _ c.refused_for-in_default-select.ensures
    (not_written _ _ _ h (search rules) (λ e. omega arith) (λ e. omega arith) (λ e. omega arith) (λ e. omega arith)
    (λ e. omega arith)))
