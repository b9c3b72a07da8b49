-- The scope of a game by its place in the file.
use Rattle.std.proofs.Common.{◌≡◌, ℕ, ◌+◌, ◌<◌, ◌≤◌, List, [], ◌∷◌, Option, Some, None, flat_map, refl, ap, arith}
use Rattle.cv_syntax_trees.specs.Declarations.{Declaration}
use Rattle.cv_syntax_trees.specs.Tree.{Tree, size}
use Rattle.cv_scope_rules.specs.typing.Parts.{declaration_parts, file_parts, game_part}
use Rattle.cv_scope_rules.specs.typing.Refusals.{parts_size}
use Rattle.cv_scope_rules.specs.declared.fault.Fault.{Fault}
use Rattle.cv_scope_rules.specs.declared.fault.Fault.TheVariants as rules
use Rattle.cv_scope_rules.specs.declared.fault.ScopeFault.{ScopeFault}
use Rattle.cv_scope_rules.specs.declared.fault.ScopeFault.TheVariants.{Unscoped, TwoSites, Channel, Replications, OutOfMemory}
use Rattle.cv_scope_rules.specs.Refusals.{IsRefusalOf}
use Rattle.cv_scope_rules.specs.Scope.{first_scope_fault, names_of}
use Rattle.cv_scope_rules.specs.Standing.{at_root}
use Rattle.cv_scope_rules.proofs.First.{earlier, finds_first}
use Rattle.cv_accept.specs.Places.{HasPlace, behind, nodes_before, refused_behind}
use Rattle.cv_typing.proofs.Bodies.{size_append}

-- a fault lies in the game
fault_within : (ds : List Declaration) (game : Tree) (q : ℕ) (f : Fault) → first_scope_fault ds game ≡ Some (q, f) → q ≤ size game
fault_within ds game q f e = let w = finds_first (names_of ds game) at_root game q f e in let l : q ≤ 0 + size game = earlier (names_of ds game) at_root game q f w.there in omega arith

pub has_place : (ds : List Declaration) (game : Tree) (n : ℕ) (e : ScopeFault) → n + size game < 4294967296 → IsRefusalOf (first_scope_fault ds game) e → HasPlace n e
has_place ds game n (Unscoped p) l r = let w = fault_within ds game p rules.Unscoped r in omega arith
has_place ds game n (TwoSites p) l r = let w = fault_within ds game p rules.TwoSites r in omega arith
has_place ds game n (Channel p) l r = let w = fault_within ds game p rules.Channel r in omega arith
has_place ds game n (Replications p) l r = let w = fault_within ds game p rules.Replications r in omega arith
has_place ds game n OutOfMemory l r = tt

pub found_behind : (o : Option (ℕ × Fault)) (n : ℕ) (e : ScopeFault) → IsRefusalOf o e → IsRefusalOf (behind n o) (refused_behind n e)
found_behind o n (Unscoped p) r = ap (behind n) r
found_behind o n (TwoSites p) r = ap (behind n) r
found_behind o n (Channel p) r = ap (behind n) r
found_behind o n (Replications p) r = ap (behind n) r
found_behind o n OutOfMemory r = tt

-- none behind others is none

pub none_behind : (n : ℕ) (o : Option (ℕ × Fault)) → o ≡ None → behind n o ≡ None
none_behind n o e = ap (behind n) e

pub behind_none : (n : ℕ) (o : Option (ℕ × Fault)) → behind n o ≡ None → o ≡ None
behind_none n None e = refl
behind_none n (Some x) e = absurd (cc)

pub behind_some : (n : ℕ) (o : Option (ℕ × Fault)) (q : ℕ) (f : Fault) → behind n o ≡ Some (q, f) → (r : ℕ) × (o ≡ Some (r, f)) × (q ≡ n + r)
behind_some n None q f e = absurd (cc)
behind_some n (Some (r, g)) q f e =
    let s : ◌≡◌ {A = ℕ × Fault} (n + r, g) (q, f) = cc in
    let i : g ≡ f = ap (λ (x : ℕ × Fault). x.1) s in
    let j : n + r ≡ q = ap (λ (x : ℕ × Fault). x.0) s in
    (r, ap (λ h. let o : Option (ℕ × Fault) = Some (r, h) in o) i, omega arith)

-- the process begins behind the declared terms
pub process_begins : (ds : List Declaration) (game : Tree) (place : ℕ) → place + size game ≡ parts_size (file_parts ds game) → place ≡ nodes_before ds
process_begins ds game place e = let b = size_append (flat_map (declaration_parts ds) ds) (game_part game ∷ []) in omega arith
