use Rattle.cv_parse_declarations.proofs.signature.Gathering.{side_made}
use Rattle.cv_parse_declarations.proofs.signature.collisions.side.Goals as goal

pub returns : goal.returns
returns c =
    let t = c.in_ok-place.ensures.makes in
    record { makes = record { value = t.value; read = t.read; makes = side_made c.args.name c.args.key.now c.args.args.now t.value _ _ _ _ c.in_ok-make_before.ensures t.makes c.in_ok-make_behind.ensures } }
