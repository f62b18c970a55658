-- The state's nine places, each with its own number.
use mathlib.Core.Path.{sym}
use Rattle.hd153108.proofs.Look.{look_state}
use Rattle.hd153108_look.proofs.number.Goals as goal

pub returns-in-0 : goal.returns-in-0
returns-in-0 c = rw c.in-0.is (sym (look_state _ c.requires).0)

pub returns-in-1 : goal.returns-in-1
returns-in-1 c = rw c.in-1.is (sym (look_state _ c.requires).1)

pub returns-in-2 : goal.returns-in-2
returns-in-2 c = rw c.in-2.is (sym (look_state _ c.requires).2)

pub returns-in-3 : goal.returns-in-3
returns-in-3 c = rw c.in-3.is (sym (look_state _ c.requires).3)

pub returns-in-4 : goal.returns-in-4
returns-in-4 c = rw c.in-4.is (sym (look_state _ c.requires).4)

pub returns-in-5 : goal.returns-in-5
returns-in-5 c = rw c.in-5.is (sym (look_state _ c.requires).5)

pub returns-in-6 : goal.returns-in-6
returns-in-6 c = rw c.in-6.is (sym (look_state _ c.requires).6)

pub returns-in-7 : goal.returns-in-7
returns-in-7 c = rw c.in-7.is (sym (look_state _ c.requires).7)

pub returns-in-8 : goal.returns-in-8
returns-in-8 c = rw c.in-8.is (sym (look_state _ c.requires).8)
