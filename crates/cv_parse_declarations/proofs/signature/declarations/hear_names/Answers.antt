use Rattle.std.proofs.Common.{◌≡◌, ℕ, ◌+◌, ◌<◌, List, [], ◌∷◌, ◌++◌, Option, ap, append-nil, append_assoc, get_or, length, sym, take, ◌∙◌}
use Rattle.std.proofs.lemmas.List.{map_more, take_all}
use Rattle.cv_syntax_trees.specs.declared.class.Class.{Class}
use Rattle.cv_parse_declarations.specs.declared.signature.heard.Heard.{Heard}
use Rattle.cv_parse_declarations.specs.declared.signature.heard.Heard.TheVariants.{Named}
use Rattle.cv_parse_declarations.specs.signature.Kinds.{names_in}
use Rattle.cv_parse_declarations.proofs.signature.declarations.hear_names.Goals as goal

more-heard : (c : Class) (r : Option ℕ) (xs : List ℕ) (k x : ℕ) (old before after : List Heard) → k < length xs → x ≡ get_or xs k 0 → before ≡ old ++ names_in c r (take k xs) → after ≡ before ++ Named x c r ∷ [] → after ≡ old ++ names_in c r (take (k + 1) xs)
more-heard c r xs k x old before after h i e f =
    let name = Named (get_or xs k 0) c r in
    f
    ∙ (ap (λ y. before ++ Named y c r ∷ []) i
    ∙ (ap (λ l. l ++ name ∷ []) e
    ∙ (append_assoc old (names_in c r (take k xs)) (name ∷ []) ∙ ap (λ l. old ++ l) (sym (map_more (λ y. Named y c r) xs k 0 h)))))

pub names-init : goal.names-init
names-init c = sym (append-nil _)

pub names-preserved : goal.names-preserved
names-preserved c = more-heard c.args.class c.args.sort c.args.names.now c.names.name-index _ _ _ _ c.names-test.true c.in_ok-id.ensures.value c.names.invariant c.in_ok-push.ensures.items

pub returns-clause-heard : goal.returns-clause-heard
returns-clause-heard c = c.names.invariant ∙ ap (λ l. c.args.heard.now.items ++ names_in c.args.class c.args.sort l) (take_all c.names.name-index c.args.names.now c.names-test.false)
