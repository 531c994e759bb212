use Rattle.dlms_pages.proofs.Runs.{run_leaves, run_left}
use Rattle.dlms_pages.proofs.laws.a_stop_leaves_old_new_or_torn_pages.Goals as goal

pub returns-clause-now : goal.returns-clause-now
returns-clause-now g c = λ start now image writes fixed run. run_leaves g.P.Pages.view start image fixed writes now run

pub returns-clause-since : goal.returns-clause-since
returns-clause-since g c = λ start now image writes fixed run. run_left g.P.Pages.view start image fixed (g.met.P.Pages.rules start fixed.honest) writes now run
