-- Looks agree with reads, on the three chips. Assumes nothing.
use Rattle.theorem_looks.specs.Agrees.{LooksAgree}
use Rattle.theorem_looks.proofs.AgreesA.{agrees_a}
use Rattle.theorem_looks.proofs.AgreesB.{agrees_b}
use Rattle.theorem_looks.proofs.AgreesC.{agrees_c}

pub looks_agree : LooksAgree
looks_agree = record { a = agrees_a; b = agrees_b; c = agrees_c }
