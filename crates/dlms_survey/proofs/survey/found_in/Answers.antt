use Rattle.std.proofs.Common.{arith, refl}
use Rattle.dlms_pages.specs.Stops.{IsFixed}
use Rattle.dlms_survey.specs.Image.{ImageValue, view_of}
use Rattle.dlms_survey.proofs.survey.found_in.Goals as goal

kept : (image : ImageValue) → IsFixed (view_of image) image.pages
kept image = record { honest = refl; only = λ c is. is }

pub find-requires : goal.find-requires
find-requires g c = omega (arith, c.has_all_pages.ensures)

pub returns-clause-found : goal.returns-clause-found
returns-clause-found g c = c.find.ensures.exact c.args.image.now.pages (kept c.args.image.now)

pub returns-clause-pages : goal.returns-clause-pages
returns-clause-pages g c = (c.find.ensures.looks c.args.image.now.pages (kept c.args.image.now)).fixed.only c.find.new.device.pages refl
