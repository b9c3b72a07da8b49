use Rattle.std.proofs.Common.{not, sym, ap, ◌∙◌}
use Rattle.cv_scene.specs.Late.{is_free_beside}
use Rattle.cv_settling_lateness.proofs.lateness.Lateness.is_free_beside.Goals as goal

pub returns-in-Par : goal.returns-in-Par
returns-in-Par c t sorted e = ap not (c.has_within.ensures sorted ∙ e) ∙ sym (ap (λ h. is_free_beside c.args.x h t) c.in-Par.is)
