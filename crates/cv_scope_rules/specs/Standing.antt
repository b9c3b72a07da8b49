-- Where a node stands in a game: what is known there, and what stands before it.
use Rattle.std.specs.Prelude.{ℕ, Bool, true, false, if◌then◌else◌, List, [], ◌∷◌, ◌++◌}
use Rattle.cv_syntax_trees.specs.declared.head.Head.{Head}
use Rattle.cv_syntax_trees.specs.declared.head.Head.TheVariants.{Find, Cons}
use Rattle.cv_syntax_trees.specs.Tree.{Tree, first_place, second_place}
use Rattle.cv_scope_rules.specs.declared.position.Position.{Position}
use Rattle.cv_scope_rules.specs.declared.position.Position.TheVariants.{Anywhere, Bodies, Branches}
use Rattle.cv_scope_rules.specs.Context.{Context, nothing_known, first_position, second_position, first_context, second_context}
use Rattle.cv_scope_rules.specs.Sites.{Site, sites_here, sites_from}

pub record Standing : Type 0 where
  pub position : Position
  pub known : Context
  pub place : ℕ
  -- the sites that stand before the node, in preorder
  pub sites : List Site
  -- the places of the earlier branches of each `if` and `find` around, from the first up to the one behind the last
  pub passed : List (ℕ × ℕ)

-- the root of a game
abbrev pub at_root : Standing
at_root = record { position = Anywhere; known = nothing_known; place = 0; sites = []; passed = [] }

abbrev pub is_choice : Position → Bool
is_choice Bodies = true
is_choice Branches = true
is_choice w = false

-- the children of the node are in different branches of an `if` or a `find`
abbrev pub parts_ways : Position → Head → Bool
parts_ways w Cons = is_choice w
parts_ways w (Find l) = true
parts_ways w h = false

-- where the children of a node stand, the first of which is a

abbrev pub first_standing : Standing → Head → Tree → Standing
first_standing s h a = record {
  position = first_position s.position h;
  known = first_context s.position h s.known;
  place = first_place s.place h;
  sites = s.sites ++ sites_here s.known.replications s.place h a;
  passed = s.passed;
}

abbrev pub passed_second : Standing → Head → Tree → List (ℕ × ℕ)
passed_second s h a =
    if parts_ways s.position h then s.passed ++ (first_place s.place h, second_place s.place h a) ∷ [] else s.passed

abbrev pub second_standing : Standing → Head → Tree → Standing
second_standing s h a = record {
  position = second_position s.position h;
  known = second_context s.position h a s.known;
  place = second_place s.place h a;
  sites = s.sites ++ (sites_here s.known.replications s.place h a ++ sites_from s.known.replications (first_place s.place h) a);
  passed = passed_second s h a;
}
