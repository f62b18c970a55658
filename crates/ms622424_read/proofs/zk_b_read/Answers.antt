-- A refusal by `refuses` and an answer by `accepts`, with the laws of a read; past what is tried first the chip is in
-- range (`past`).
use Rattle.std.proofs.Common.{rules, refl, ◌≡◌}
use Rattle.vocabulary.proofs.Refusals.{number_positive}
use Rattle.ms622424.specs.Ms622424.{register_at, readable, answers}
use Rattle.ms622424.proofs.InRange.{past, tried}
use Rattle.ms622424.proofs.Read.{read_does, not_read}
use Rattle.ms622424_places.proofs.Does.{refuses, accepts}
use Rattle.ms622424_read.proofs.Arms.{status_served}
use Rattle.ms622424_read.proofs.zk_b_read.Goals as goal

pub returns-in-Err : goal.returns-in-Err
returns-in-Err c =
    refuses _ _ _ _ _ c.refused_for.ensures
    (tried _ _ _ refl refl c.in-Err.ensures (number_positive c.in-Err.r))

pub unwrap-requires : goal.unwrap-requires
unwrap-requires c = c.as_array.ensures.variant.1 (past _ c.in_default.ensures refl).size

pub read_palette-requires : goal.read_palette-requires
read_palette-requires c = let h = past _ c.in_default.ensures refl in (h.address, h.counter)

pub status-requires : goal.status-requires
status-requires c = (past _ c.in_default.ensures refl).counter

pub read_ident-requires : goal.read_ident-requires
read_ident-requires c = let h = past _ c.in_default.ensures refl in (h.board, h.revision)

pub returns-in-0 : goal.returns-in-0
unfolding register_at readable answers
returns-in-0 c =
    accepts _ _ _ _ _ _ _ c.accepted.ensures
    (read_does _ _ (past _ c.in_default.ensures refl) 0 c.in-0.is refl refl refl refl)

pub returns-in-1 : goal.returns-in-1
unfolding register_at readable answers
returns-in-1 c =
    accepts _ _ _ _ _ _ _ c.accepted-in-1.ensures
    (read_does _ _ (past _ c.in_default.ensures refl) 1 c.in-1.is refl refl refl refl)

pub returns-in-2 : goal.returns-in-2
returns-in-2 c =
    let e : c.args.map.now ≡ c.unwrap.result.now = search rules in
    let h = past _ c.in_default.ensures refl in
    rw (c.in-2.is, e) (c.read_palette.ensures _ (rw e at h))

pub returns-in-3 : goal.returns-in-3
unfolding register_at readable answers
returns-in-3 c =
    accepts _ _ _ _ _ _ _ c.accepted-in-3.ensures
    (read_does _ _ (past _ c.in_default.ensures refl) 3 c.in-3.is refl refl refl refl)

pub returns-in-4 : goal.returns-in-4
returns-in-4 c =
    status_served _ _ _ _ _ (past _ c.in_default.ensures refl) c.in-4.is c.status.ensures c.accepted-in-4.ensures

pub returns-in-5 : goal.returns-in-5
returns-in-5 c = rw c.in-5.is (c.read_buffer.ensures _ _ (past _ c.in_default.ensures refl))

pub returns-in-6 : goal.returns-in-6
returns-in-6 c = rw c.in-6.is (c.read_ident.ensures _ _ (past _ c.in_default.ensures refl))

pub returns-in-7 : goal.returns-in-7
returns-in-7 c = rw c.in-7.is (c.end_read_mode.ensures _ _ (past _ c.in_default.ensures refl))

pub returns-in_default-select : goal.returns-in_default-select
returns-in_default-select c =
    refuses _ _ _ _ _ c.refused_for-in_default-select.ensures
    (not_read _ _ (past _ c.in_default.ensures refl) (search rules) (search rules) (search rules) (search rules)
    (search rules) (search rules) (search rules) (search rules))
