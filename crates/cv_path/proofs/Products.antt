-- Products of parameters that grow.
use Rattle.std.proofs.Common.{◌≡◌, ℕ, ◌+◌, ◌-◌, ◌<◌, ◌≤◌, cond, List, [], ◌++◌, length, length-append, append_assoc, append-nil, Option, Some, None, refl, sym, ap, ◌∙◌, arith, le-ltb, lt-ltb}
use Rattle.std.specs.Prelude.{option_map, option_and_then}
use Rattle.cv_syntax_trees.specs.declared.head.Head.{Head}
use Rattle.cv_syntax_trees.specs.Head.{weight}
use Rattle.cv_syntax_trees.specs.Tree.{Tree, Empty, Node, first, size}
use Rattle.cv_path.specs.declared.place.Lies.TheVariants.{Here, Within, Behind}
use Rattle.cv_path.specs.Places.{LiesAt}
use Rattle.cv_path.specs.Copies.{added, copies_at, guards, if_few, most_factors, parameter_of, parameters}
use Rattle.cv_path.proofs.Going.{choice_here, choice_within, choice_behind, less_within, less_behind}

pub parameters_node : (t : Tree) (h : Head) (a b : Tree) → t ≡ Node h a b → parameters t ≡ parameter_of h ++ parameters b
unfolding parameters
parameters_node t h a b e = ap parameters e

pub parameters_empty : (t : Tree) → t ≡ Empty → parameters t ≡ []
unfolding parameters
parameters_empty t e = ap parameters e

-- one index more
pub parameters_go : (t : Tree) (h : Head) (a b : Tree) (old new total : List ℕ) → t ≡ Node h a b → new ≡ old ++ parameter_of h → old ++ parameters t ≡ total → new ++ parameters b ≡ total
parameters_go t h a b old new total e n i = ap (λ l. l ++ parameters b) n ∙ (append_assoc old (parameter_of h) (parameters b) ∙ (ap (λ l. old ++ l) (sym (parameters_node t h a b e)) ∙ i))

pub parameters_end : (t : Tree) (old total : List ℕ) → t ≡ Empty → old ++ parameters t ≡ total → old ≡ total
parameters_end t old total e i = sym (ap (λ l. old ++ l) (parameters_empty t e) ∙ append-nil old) ∙ i

-- what is too long stays so
pub parameters_full : (t : Tree) (h : Head) (a b : Tree) (old total : List ℕ) → t ≡ Node h a b → most_factors < length (old ++ parameter_of h) → old ++ parameters t ≡ total → most_factors < length total
parameters_full t h a b old total e l i =
    let n : length (old ++ parameter_of h) ≤ length total = omega (arith, length-append old (parameter_of h), length-append (old ++ parameter_of h) (parameters b), ap length (sym (append_assoc old (parameter_of h) (parameters b)) ∙ sym refl), ap length (append_assoc old (parameter_of h) (parameters b) ∙ (ap (λ l. old ++ l) (sym (parameters_node t h a b e)) ∙ i))) in
    omega arith

module _ (t : Tree) (h : Head) (a b : Tree) (p q : ℕ) (e : t ≡ Node h a b) where
  pub copies_here : LiesAt h a p Here → copies_at t p ≡ Some []
  unfolding copies_at
  copies_here l = ap (λ u. copies_at u p) e ∙ choice_here h a p (Some []) (copies_at a (p - weight h)) (option_map (λ (ns : List ℕ). added h a b (p - (weight h + size a)) ++ ns) (copies_at b (p - (weight h + size a)))) l

  pub copies_within : LiesAt h a p (Within q) → copies_at t p ≡ copies_at a q
  unfolding copies_at
  copies_within l =
      ap (λ u. copies_at u p) e
      ∙ (choice_within h a p (Some []) (copies_at a (p - weight h)) (option_map (λ (ns : List ℕ). added h a b (p - (weight h + size a)) ++ ns) (copies_at b (p - (weight h + size a)))) q l
      ∙ ap (copies_at a) (less_within h a p q l))

  pub copies_behind : LiesAt h a p (Behind q) → copies_at t p ≡ option_map (λ (ns : List ℕ). added h a b q ++ ns) (copies_at b q)
  unfolding copies_at
  copies_behind l =
      ap (λ u. copies_at u p) e
      ∙ (choice_behind h a p (Some []) (copies_at a (p - weight h)) (option_map (λ (ns : List ℕ). added h a b (p - (weight h + size a)) ++ ns) (copies_at b (p - (weight h + size a)))) q l
      ∙ ap (λ n. option_map (λ (ns : List ℕ). added h a b n ++ ns) (copies_at b n)) (less_behind h a p q l))

pub copies_empty : (t : Tree) (p : ℕ) → t ≡ Empty → copies_at t p ≡ None
unfolding copies_at
copies_empty t p e = ap (λ u. copies_at u p) e

-- what stands before is put before
prefixed : (old more : List ℕ) (o : Option (List ℕ)) → option_map (λ (ns : List ℕ). (old ++ more) ++ ns) o ≡ option_map (λ (ns : List ℕ). old ++ ns) (option_map (λ (ns : List ℕ). more ++ ns) o)
prefixed old more None = refl
prefixed old more (Some ns) = ap Some (append_assoc old more ns)

pub factors_within : (t : Tree) (h : Head) (a b : Tree) (p q : ℕ) (old : List ℕ) (total : Option (List ℕ)) → t ≡ Node h a b → LiesAt h a p (Within q) → option_map (λ (ns : List ℕ). old ++ ns) (copies_at t p) ≡ total → option_map (λ (ns : List ℕ). old ++ ns) (copies_at a q) ≡ total
factors_within t h a b p q old total e l i = ap (option_map (λ (ns : List ℕ). old ++ ns)) (sym (copies_within t h a b p q e l)) ∙ i

pub factors_behind : (t : Tree) (h : Head) (a b : Tree) (p q : ℕ) (old new : List ℕ) (total : Option (List ℕ)) → t ≡ Node h a b → LiesAt h a p (Behind q) → new ≡ old ++ added h a b q → option_map (λ (ns : List ℕ). old ++ ns) (copies_at t p) ≡ total → option_map (λ (ns : List ℕ). new ++ ns) (copies_at b q) ≡ total
factors_behind t h a b p q old new total e l n i =
    ap (λ l. option_map (λ (ns : List ℕ). l ++ ns) (copies_at b q)) n
    ∙ (prefixed old (added h a b q) (copies_at b q)
    ∙ (ap (option_map (λ (ns : List ℕ). old ++ ns)) (sym (copies_behind t h a b p q e l)) ∙ i))

-- at the place
pub factors_here : (t : Tree) (h : Head) (a b : Tree) (p : ℕ) (old : List ℕ) (total : Option (List ℕ)) → t ≡ Node h a b → LiesAt h a p Here → length old ≤ most_factors → option_map (λ (ns : List ℕ). old ++ ns) (copies_at t p) ≡ total → Some old ≡ option_and_then if_few total
factors_here t h a b p old total e l f i =
    sym (ap (option_and_then if_few) (sym i ∙ (ap (option_map (λ (ns : List ℕ). old ++ ns)) (copies_here t h a b p 0 e l) ∙ ap Some (append-nil old))) ∙ ap (λ v. cond v None (Some old)) (le-ltb most_factors (length old) f))

-- where there is no room
too_long : (old more : List ℕ) (o : Option (List ℕ)) → most_factors < length (old ++ more) → None ≡ option_and_then if_few (option_map (λ (ns : List ℕ). old ++ ns) (option_map (λ (ns : List ℕ). more ++ ns) o))
too_long old more None l = refl
too_long old more (Some ns) l =
    let m : most_factors < length (old ++ (more ++ ns)) = omega (arith, length-append (old ++ more) ns, ap length (append_assoc old more ns)) in
    sym (ap (λ v. cond v None (Some (old ++ (more ++ ns)))) (lt-ltb most_factors (length (old ++ (more ++ ns))) m))

pub factors_full : (t : Tree) (h : Head) (a b : Tree) (p q : ℕ) (old : List ℕ) (total : Option (List ℕ)) → t ≡ Node h a b → LiesAt h a p (Behind q) → most_factors < length (old ++ added h a b q) → option_map (λ (ns : List ℕ). old ++ ns) (copies_at t p) ≡ total → None ≡ option_and_then if_few total
factors_full t h a b p q old total e l f i =
    too_long old (added h a b q) (copies_at b q) f ∙ ap (option_and_then if_few) (ap (option_map (λ (ns : List ℕ). old ++ ns)) (sym (copies_behind t h a b p q e l)) ∙ i)

pub factors_end : (t : Tree) (p : ℕ) (old : List ℕ) (total : Option (List ℕ)) → t ≡ Empty → option_map (λ (ns : List ℕ). old ++ ns) (copies_at t p) ≡ total → None ≡ option_and_then if_few total
factors_end t p old total e i = ap (option_and_then if_few) (sym (ap (option_map (λ (ns : List ℕ). old ++ ns)) (copies_empty t p e)) ∙ i)

pub size_parts : (t : Tree) → guards t ≤ size t
unfolding size
size_parts Empty = omega arith
size_parts (Node h a Empty) = omega arith
size_parts (Node h a (Node k b c)) = omega arith

pub size_first : (t : Tree) → size (first t) ≤ size t
unfolding size
size_first Empty = omega arith
size_first (Node h a b) = omega arith

pub ruleset counting = (size_parts, size_first)
