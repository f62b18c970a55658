use Rattle.answers_digits.proofs.+decimal.Given as goal

-- the digits that are left to write
abbrev pub decreases-decimal : goal.decreases-decimal
decreases-decimal l = l.most
