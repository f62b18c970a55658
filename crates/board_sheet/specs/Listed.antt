-- How the sheet writer's answer is told: so many bytes of the page, or a text that refuses.
use Rattle.std.specs.Prelude.{Ok, Err}
use Rattle.vocabulary.specs.Refusal.{number}
use Rattle.sheet.specs.Sheet as S
use Rattle.answers.specs.Answers.{refused_text}
use Rattle.board.specs.declared.Answer.{Answer}
use Rattle.board.specs.declared.Answer.TheVariants.{Line, Page}

abbrev pub listed : S.Answer → Answer
listed (Ok n) = Page n
listed (Err e) = Line (refused_text (number e.refusal))
