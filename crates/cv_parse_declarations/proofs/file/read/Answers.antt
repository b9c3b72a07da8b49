use Rattle.std.proofs.Common.{refl, arith, ap, ◌∙◌, ◌++◌, ◌∷◌, []}
use Rattle.cv_parse_terms.specs.Gives.{uses_of}
use Rattle.cv_parse_declarations.proofs.Wholes.{file_unended, reading_of}
use Rattle.cv_parse_declarations.proofs.file.read.Goals as goal

pub returns-then-place-signs : goal.returns-then-place-signs
returns-then-place-signs c = file_unended c.args.signs.now _ _ _ _ _ _ _ c.in_ok-script.script _ _ c.in_ok-place-2.place c.in_ok-place.ensures.declare c.in_ok-script.ensures.gives refl c.in_ok-place-2.ensures.makes (omega arith)

pub returns : goal.returns
returns c =
    reading_of c.args.signs.now _ _ _ _ _ _ _ c.in_ok-script.script _ _ _ c.in_ok-place-2.place
    (ap uses_of (c.in_ok-push.ensures.items ∙ ap (λ l. l ++ _ ∷ []) c.new-trail.ensures.uses)) c.new-trail.ensures.makes c.new-heard.ensures.items c.in_ok-place.ensures.declare c.in_ok-script.ensures.gives refl c.new.ensures.items c.in_ok-place-2.ensures.makes (omega arith) refl refl refl refl refl
