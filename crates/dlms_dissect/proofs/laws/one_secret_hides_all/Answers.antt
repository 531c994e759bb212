use Rattle.dlms_dissect.proofs.SurveyLemmas.{secret-told}
use Rattle.dlms_dissect.specs.Survey.{nothing}
use Rattle.dlms_dissect.proofs.laws.one_secret_hides_all.Goals as goal

pub returns : goal.returns
returns c = λ ts n names e. secret-told nothing ts n names e
