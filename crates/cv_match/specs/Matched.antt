-- What is looked for in a game for an equivalence of its file and a key, and what a fault says of it.
use Rattle.std.specs.Prelude.{◌≡◌, ℕ, if◌then◌else◌, List, Option, Some}
use Rattle.cv_pool.specs.declared.node.NodeId.{NodeId}
use Rattle.cv_pool.specs.PoolView.{PoolView}
use Rattle.cv_syntax.specs.Classes.{DeclsView, equiv_in}
use Rattle.cv_syntax.specs.PoolTrees.{tree_at}
use Rattle.cv_meaning.specs.contexts.Groups.{Left, side_group}
use Rattle.cv_syntax_trees.specs.sites.Sites.{first_of}
use Rattle.cv_scope_rules.specs.declared.position.Position.TheVariants.{Anywhere}
use Rattle.cv_scene_view.specs.Kept.{scene_of}
use Rattle.cv_scene.specs.Instances.{Matching}
use Rattle.cv_scene.specs.Refusals as refusals
use Rattle.cv_scene.specs.Refusals.{Refusal, at_place, first_argument_use, first_coin_use, first_in_condition, first_use, has_key}
use Rattle.cv_scene.specs.Sites.{Site}
use Rattle.cv_match.specs.declared.fault.MatchFault.{MatchFault}
use Rattle.cv_match.specs.declared.fault.MatchFault.TheVariants as fault

-- the left side of the equivalence with this name, with a variable of the game for its key
abbrev pub matching_of : PoolView → DeclsView → NodeId → (equiv x : ℕ) → Matching
matching_of pool decls game equiv x =
    record { scene = scene_of pool decls game; group = side_group Left (tree_at pool.trees (equiv_in decls.list equiv)); key = x }

-- the fault is this refusal; want of memory says nothing
abbrev pub IsFault : Option Refusal → MatchFault → Type 0
IsFault r fault.NotOneSite = r ≡ Some refusals.NotOneSite
IsFault r (fault.Use p) = r ≡ Some (refusals.Use p)
IsFault r (fault.InCondition p) = r ≡ Some (refusals.InCondition p)
IsFault r (fault.CoinUse p) = r ≡ Some (refusals.CoinUse p)
IsFault r (fault.KeyInArgument p) = r ≡ Some (refusals.KeyInArgument p)
IsFault r fault.OutOfMemory = Unit {0}

-- the first refusal that the key gives, and the first that sites give

unfoldable pub key_refusal : Matching → Option Refusal
key_refusal M =
    if has_key M then
    first_of (at_place refusals.Use (first_use M Anywhere 0 M.scene.game)) (at_place refusals.InCondition (first_in_condition M.key Anywhere 0 M.scene.game))
    else Some refusals.NotOneSite

unfoldable pub site_refusal : Matching → List Site → Option Refusal
site_refusal M ss = first_of (at_place refusals.CoinUse (first_coin_use M ss)) (at_place refusals.KeyInArgument (first_argument_use M ss))
