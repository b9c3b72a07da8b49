use Rattle.std.proofs.Common.{◌∙◌}
use Rattle.cv_parse_declarations.proofs.signature.Gathering.{both_sides, kept, taken_away, terms_read}
use Rattle.cv_parse_declarations.proofs.signature.collisions.terms.Goals as goal

pub returns : goal.returns
returns c =
    let v = c.in_ok-place.ensures.makes in
    let l = c.in_ok-place-2.ensures.makes in
    let r = c.in_ok-place-3.ensures.makes in
    let start = c.len-start.ensures ∙ c.args.trail.now.makes.ok.0 in
    let args = c.in_ok-args.ensures.tail ∙ taken_away _ _ _ _ start v.makes in
    record {
      makes = record {
        args = v.value;
        left = l.value;
        right = r.value;
        read = terms_read c.args.depth c.args.at v.read l.read c.in_ok-bound.ensures.gives r.read c.in_ok-place-4.ensures.read;
        makes =
            both_sides c.args.name c.args.key.now c.deref.result.now c.deref-2.result.now v.value l.value r.value _ _ _ _ _
            (c.deref.ensures.value ∙ args) (c.deref-2.ensures.value ∙ args) (c.in_ok-args.ensures.items ∙ kept _ _ _ _ start v.makes) l.makes c.in_ok-bound.ensures.makes r.makes;
      };
    }
