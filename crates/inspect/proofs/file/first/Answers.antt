use Rattle.std.proofs.Common.{sym, ap, ◌∙◌, arith, take_all}
use Rattle.std.proofs.lemmas.List.{drop_all}
use Rattle.inspect.specs.File.{tells}
use Rattle.inspect.proofs.file.first.Goals as goal

pub returns-in-None-clause-found : goal.returns-in-None-clause-found
returns-in-None-clause-found c = c.found-in-None.ensures ∙ ap tells (sym (take_all 64 c.args.rest.now (omega (arith, c.in-None.ensures.cases))))

pub returns-in-None-clause-next : goal.returns-in-None-clause-next
returns-in-None-clause-next c = sym (drop_all 64 c.args.rest.now (omega (arith, c.in-None.ensures.cases)))
