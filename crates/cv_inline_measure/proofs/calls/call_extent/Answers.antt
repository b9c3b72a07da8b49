use Rattle.std.proofs.Common.{ℕ, ◌≡◌, Some, None, ap, option_map, sym, subst, ◌∙◌}
use Rattle.std.proofs.lemmas.Option.{slice_get-get_or, slice_get_past}
use Rattle.std.proofs.lemmas.Result.{IfOk-weaker}
use Rattle.cv_syntax_trees.specs.Tree.{lone}
use Rattle.cv_syntax.specs.PoolTrees.{tree_at}
use Rattle.cv_syntax_trees.specs.declared.head.Head.TheVariants.{No}
use Rattle.cv_meaning.specs.contexts.Groups.{Group}
use Rattle.cv_inline.specs.NextGame.{numbered}
use Rattle.cv_inline_laws.specs.extents.Extents.{of_call_at}
use Rattle.cv_inline_sites.specs.listing.Callings.{calling_in, callings_in}
use Rattle.cv_inline.specs.declared.terms.calling.Calling.{Calling}
use Rattle.cv_inline_measure.specs.Counts.{IsTold}
use Rattle.cv_inline_measure.specs.Settings.{calls_of, measure_of}
use Rattle.cv_inline_measure.proofs.Scoped.{false_told}
use Rattle.cv_inline_measure.proofs.calls.call_extent.Goals as goal

pub returns-in-Some : goal.returns-in-Some
returns-in-Some c =
    let s = c.args.setting.now in
    let trees = s.pool.now.trees in
    let xs = s.callings.now in
    let ms = tree_at trees c.args.arguments in
    let site : Some (calling_in trees c.in-Some.calling.now) ≡ numbered c.args.number (callings_in trees s.callings.now) = ap (option_map (calling_in trees)) (sym (slice_get-get_or xs c.place_of_site.result c.in-Some.calling.now c.in-Some.ensures.lookup.3.0 ∙ ap (λ (k : Calling). Some k) (sym c.in-Some.ensures.lookup.1))) ∙ c.place_of_site.ensures trees in
    IfOk-weaker c.site_call.result
    (λ a. (x : ℕ) (g : Group) → g.key.0 ≡ s.right_key → IsTold a (of_call_at (measure_of s) (calls_of s x g) (Some (calling_in trees c.in-Some.calling.now)) ms))
    (λ a. (x : ℕ) (g : Group) → g.key.0 ≡ s.right_key → IsTold a (of_call_at (measure_of s) (calls_of s x g) (numbered c.args.number (callings_in trees s.callings.now)) ms))
    (λ a h. λ x g e. subst (λ o. IsTold a (of_call_at (measure_of s) (calls_of s x g) o ms)) site (h x g e)) c.site_call.ensures

pub returns-in-None : goal.returns-in-None
returns-in-None c = λ x g e.
    let s = c.args.setting.now in
    let trees = s.pool.now.trees in
    let xs = s.callings.now in
    let site : None ≡ numbered c.args.number (callings_in trees s.callings.now) = ap (option_map (calling_in trees)) (sym (slice_get_past xs c.place_of_site.result c.in-None.ensures.lookup.3)) ∙ c.place_of_site.ensures trees in
    subst (λ o. IsTold c.of_result.result (of_call_at (measure_of s) (calls_of s x g) o (tree_at trees c.args.arguments))) site (c.of_result.ensures (lone No) (false_told s.measure))
