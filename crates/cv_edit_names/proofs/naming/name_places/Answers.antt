use Rattle.std.proofs.Common.{◌≡◌, ◌+◌, ◌<◌, ◌≤◌, ◌++◌, ℕ, List, [], ◌∷◌, Some, suc, ap, arith, get_or, length, ltb-false, ltb-true, take, sym, ◌∙◌}
use Rattle.std.specs.Prelude.{is_some}
use Rattle.cv_syntax.specs.PoolTrees.{tree_at}
use Rattle.cv_scope_rules.specs.Behind.{sites_of}
use Rattle.cv_derive_facts.specs.Definitions.{places}
use Rattle.cv_edit_names.specs.Naming.{named_places}
use Rattle.cv_edit_names.proofs.NamedPlaces.{named_all, named_more, none_named}
use Rattle.cv_edit_names.proofs.naming.name_places.Goals as goal

pub names-init : goal.names-init
names-init c = c.new-named.ensures.items ∙ sym (none_named (sites_of (tree_at c.args.pool.now.trees (Some c.args.game)) c.args.x))

pub names-preserved : goal.names-preserved
names-preserved c =
    let ds = sites_of (tree_at c.args.pool.now.trees (Some c.args.game)) c.args.x in
    let ys = c.args.names.now in
    let k = c.names.k in
    let same = c.deref.ensures.value ∙ c.in_ok-found.ensures in
    let within : k < length c.deref.result.now = ltb-true k (length c.deref.result.now) (sym c.get.ensures.lookup.0 ∙ ap is_some c.in-Some.is) in
    let less : k < length (places ds) = omega (arith, within, ap length same) in
    let place = c.in-Some.place.now in
    let at : place ≡ get_or (places ds) k place = c.in-Some.ensures.lookup.1 ∙ ap (λ l. get_or l k place) same in
    let next : suc k ≡ k + 1 = omega arith in
    let pushed : c.push.new.self.items ≡ c.names.named.items ++ (place, get_or ys k 0) ∷ [] = c.in_ok-push.ensures.items in
    pushed ∙ (ap (λ (l : List (ℕ × ℕ)). l ++ (place, get_or ys k 0) ∷ []) c.names.invariant ∙ (sym (named_more ds ys k place 0 less at (omega arith)) ∙ ap (λ n. named_places ds (take n ys)) next))

pub returns-in_default : goal.returns-in_default
returns-in_default c =
    let ds = sites_of (tree_at c.args.pool.now.trees (Some c.args.game)) c.args.x in
    let past : length c.deref.result.now ≤ c.names.k = ltb-false c.names.k (length c.deref.result.now) (sym c.get.ensures.lookup.0 ∙ ap is_some c.in_default.is) in
    c.names.invariant ∙ named_all ds c.args.names.now c.names.k (omega (arith, past, ap length (c.deref.ensures.value ∙ c.in_ok-found.ensures)))
