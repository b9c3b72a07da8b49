-- The alternatives of a right side as the code has them: lists of nodes with numbers.
use Rattle.std.specs.Prelude.{ℕ, All, List, ◌++◌, flat_map, map}
use Rattle.std.specs.declared.alloc.Global.{Global}
use Rattle.std.specs.declared.vec.Vec.{Vec}
use Rattle.cv_pool.specs.KindTree.{KindTree}
use Rattle.cv_pool.specs.Nodes.{ChildBelow}
use Rattle.cv_syntax.specs.PoolTrees.{tree_at}
use Rattle.cv_meaning.specs.Correspondences.{Atom, atom_of}
use Rattle.cv_query_parts.specs.declared.alternatives.NumberedAtom.{NumberedAtom}

abbrev pub lists : List (Vec NumberedAtom Global) → List (List NumberedAtom)
lists alternatives = map (λ (atoms : Vec NumberedAtom Global). atoms.items) alternatives

-- for each of the first ones in order, each of the others behind it
abbrev pub each_with : {A : Type 0} → List (List A) → List (List A) → List (List A)
each_with xs ys = flat_map (λ x. map (λ y. x ++ y) ys) xs

abbrev pub numbered_seen : List KindTree → NumberedAtom → ℕ × Atom
numbered_seen trees x = (x.number, atom_of (tree_at trees x.atom))

abbrev pub atoms_seen : List KindTree → List NumberedAtom → List (ℕ × Atom)
atoms_seen trees xs = map (numbered_seen trees) xs

abbrev pub alternatives_seen : List KindTree → List (Vec NumberedAtom Global) → List (List (ℕ × Atom))
alternatives_seen trees alternatives = map (atoms_seen trees) (lists alternatives)

-- their nodes are below a number

abbrev pub AreAtomsBelow : ℕ → List NumberedAtom → Type 0
AreAtomsBelow n xs = All (λ (x : NumberedAtom). ChildBelow n x.atom) xs

abbrev pub AreAlternativesBelow : ℕ → List (Vec NumberedAtom Global) → Type 0
AreAlternativesBelow n alternatives = All (AreAtomsBelow n) (lists alternatives)
