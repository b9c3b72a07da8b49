-- The rules of array scope as tests.
use Rattle.std.specs.Prelude.{ℕ, Bool, true, false, ◌&&◌, ◌||◌, not, ◌==◌, nat_lt, if◌then◌else◌, List, [], ◌∷◌, ◌++◌, Option, Some, None, length}
use Rattle.std.specs.List.{list_any, list_all}
use Rattle.cv_syntax_trees.specs.declared.head.Head.{Head}
use Rattle.cv_syntax_trees.specs.declared.head.Head.TheVariants.{Repl, Branch, Leaf, Read}
use Rattle.cv_syntax_trees.specs.Tree.{Tree, Node, same_tree}
use Rattle.cv_syntax_trees.specs.sites.Counting.{count}
use Rattle.cv_scope_rules.specs.declared.fault.Fault.{Fault}
use Rattle.cv_scope_rules.specs.declared.fault.Fault.TheVariants.{Unscoped, TwoSites, Channel, Replications}
use Rattle.cv_scope_rules.specs.declared.position.Position.{Position}
use Rattle.cv_scope_rules.specs.declared.position.Position.TheVariants.{OneCell}
use Rattle.cv_scope_rules.specs.Context.{Context}
use Rattle.cv_scope_rules.specs.Sites.{Site, SiteName, Variable, Channel as ChannelName, Label, named_here, channel_here}
use Rattle.cv_scope_rules.specs.Standing.{Standing}
use Rattle.cv_scope_rules.specs.Rules.{Names, is_index, carries_current}

abbrev pub is_in_reach : Context → Tree → Bool
is_in_reach Γ t = list_any (same_tree t) Γ.cells || list_any (same_tree t) Γ.own

abbrev pub reads_in_reach : Names → Context → Head → Tree → Tree → Bool
reads_in_reach names Γ (Leaf x) a b = is_index Γ.replications x || (names.constant x || is_in_reach Γ (Node (Leaf x) a b))
reads_in_reach names Γ (Read x) a b = is_in_reach Γ (Node (Read x) a b)
reads_in_reach names Γ h a b = true

abbrev pub is_in_scope : Names → Position → Context → Head → Tree → Tree → Bool
is_in_scope names OneCell Γ h a b = true
is_in_scope names w Γ h a b = reads_in_reach names Γ h a b

abbrev pub same_name : SiteName → SiteName → Bool
same_name (Variable x) (Variable y) = x == y
same_name (ChannelName c) (ChannelName d) = c == d
same_name (Label l) (Label m) = l == m
same_name a b = false

abbrev pub same_numbers : List ℕ → List ℕ → Bool
same_numbers [] [] = true
same_numbers (x ∷ xs) (y ∷ ys) = (x == y) && same_numbers xs ys
same_numbers _ _ = false

abbrev pub same_replications : List (ℕ × ℕ) → List (ℕ × ℕ) → Bool
same_replications [] [] = true
same_replications (r ∷ rs) (q ∷ qs) = ((r.0 == q.0) && (r.1 == q.1)) && same_replications rs qs
same_replications _ _ = false

abbrev pub is_in_one_of : List (ℕ × ℕ) → ℕ → Bool
is_in_one_of rs p = list_any (λ (r : ℕ × ℕ). not (nat_lt p r.0) && nat_lt p r.1) rs

abbrev pub are_alike : Site → Site → Bool
are_alike e s = same_replications e.replications s.replications && same_numbers e.types s.types

abbrev pub may_follow : List (ℕ × ℕ) → Site → Site → Bool
may_follow passed s e = not (same_name e.name s.name) || (is_in_one_of passed e.place && are_alike e s)

abbrev pub may_stand : List (ℕ × ℕ) → List Site → List Site → Bool
may_stand passed sites [] = true
may_stand passed sites (s ∷ ss) = list_all (may_follow passed s) sites && may_stand passed (sites ++ s ∷ []) ss

abbrev pub is_few_indices : Head → Tree → Bool
is_few_indices Branch a = nat_lt (count a) 9
is_few_indices h a = true

abbrev pub binds_new_index : Names → List (ℕ × ℕ) → Head → Bool
binds_new_index names rs (Repl i n) = not (is_index rs i) && not (names.variable i)
binds_new_index names rs h = true

abbrev pub obeys : Names → Standing → Head → Tree → Tree → Fault → Bool
obeys names s h a b Unscoped = is_in_scope names s.position s.known h a b
obeys names s h a b TwoSites = may_stand s.passed s.sites (named_here s.known.replications s.place h a)
obeys names s h a b Channel = carries_current s.known.replications h a && may_stand s.passed s.sites (channel_here s.known.replications s.place h a)
obeys names s h a b Replications = nat_lt (length s.known.replications) 9 && (is_few_indices h a && binds_new_index names s.known.replications h)

-- the first kind of rules that a node breaks
abbrev pub fault_of : Names → Standing → Head → Tree → Tree → Option Fault
fault_of names s h a b =
    if not (obeys names s h a b Unscoped) then Some Unscoped
    else if not (obeys names s h a b TwoSites) then Some TwoSites
    else if not (obeys names s h a b Channel) then Some Channel
    else if not (obeys names s h a b Replications) then Some Replications
    else None
