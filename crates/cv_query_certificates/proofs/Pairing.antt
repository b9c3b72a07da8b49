-- Where no pair is wrong, and no variable unfit to be taken to differ, the parts behind the entries are as they are to be, and the other
-- way round.
use Rattle.std.proofs.Common.{◌≡◌, ℕ, Bool, true, false, List, [], ◌∷◌, Option, Some, None, refl, ap, ◌∙◌}
use Rattle.std.specs.Prelude.{if◌then◌else◌, is_some}
use Rattle.std.proofs.lemmas.Bool.{both_ways}
use Rattle.cv_syntax_trees.specs.lists.Options.{first_of}
use Rattle.cv_syntax_trees.proofs.lists.Options.{some_none, first_of_none}
use Rattle.cv_syntax_trees.specs.declared.head.Head.TheVariants.{AtEntry, DistinctPart, Pair}
use Rattle.cv_syntax_trees.specs.Tree.{Tree, Empty, Node}
use Rattle.cv_scene.specs.Large.{first_other_site, is_large}
use Rattle.cv_scene.specs.Scenes.{Scene}
use Rattle.cv_query_certificates.specs.Failures.{surplus_entry}
use Rattle.cv_query_certificates.specs.Marks.{plain}
use Rattle.cv_query_certificates.specs.PairParts.{AreDistinct, ArePairs, IsDistinct, IsPair, distinct_fault, first_unfit_name, first_wrong_pair, is_named_in, is_pair, pair_fault, pairs_in, proves_pair}
use Rattle.cv_query_certificates.specs.Pairs.{Needed}
use Rattle.cv_query_certificates.specs.Secrets.{first_definition}

if_some : (b : Bool) (p : ℕ) → (if b then None else Some p) ≡ None → b ≡ true
if_some true p e = refl
if_some false p e = absurd (some_none p e)

unless_named : (b : Bool) (p : ℕ) → (if b then Some p else None) ≡ None → b ≡ false
unless_named true p e = absurd (some_none p e)
unless_named false p e = refl

pub both_if : (a b : Bool) (p q : ℕ) → (if a then (if b then None else Some p) else Some q) ≡ None → (a ≡ true) × (b ≡ true)
both_if true b p q e = (refl, if_some b p e)
both_if false b p q e = absurd (some_none q e)

pub both_hold : (a b : Bool) (p q : ℕ) → a ≡ true → b ≡ true → (if a then (if b then None else Some p) else Some q) ≡ None
both_hold true true p q e f = refl
both_hold true false p q e f = absurd (both_ways false refl f)
both_hold false b p q e f = absurd (both_ways false refl e)

module _ (s : Scene) (k : ℕ) (ds : List ℕ) where
  pair_stands : (n : Needed) (part : Tree) → pair_fault s k ds n part ≡ None → IsPair s k ds n part
  pair_stands n (Node Pair p (Node h q (Node g c by))) e = both_if (is_pair n p q c) (proves_pair s k ds n (plain k by)) _ _ e
  pair_stands n part e = absurd (some_none _ e)

  pair_passes : (n : Needed) (part : Tree) → IsPair s k ds n part → pair_fault s k ds n part ≡ None
  pair_passes n (Node Pair p (Node h q (Node g c by))) a = both_hold (is_pair n p q c) (proves_pair s k ds n (plain k by)) _ _ a.0 a.1
  pair_passes n part a = absurd a

  pub pairs_stand : (ns : List Needed) (parts : Tree) → first_wrong_pair s k ds ns parts ≡ None → ArePairs s k ds ns parts
  pairs_stand [] Empty e = tt
  pairs_stand [] (Node h part more) e = absurd (some_none _ e)
  pairs_stand (n ∷ ns) Empty e = absurd (some_none _ e)
  pairs_stand (n ∷ ns) (Node h part more) e =
      let a = first_of_none (pair_fault s k ds n part) _ e in (pair_stands n part a.0, pairs_stand ns more a.1)

  pub pairs_pass : (ns : List Needed) (parts : Tree) → ArePairs s k ds ns parts → first_wrong_pair s k ds ns parts ≡ None
  pairs_pass [] Empty a = refl
  pairs_pass [] (Node h part more) a = absurd a
  pairs_pass (n ∷ ns) Empty a = absurd a
  pairs_pass (n ∷ ns) (Node h part more) a =
      ap (λ z. first_of z (first_wrong_pair s k ds ns more)) (pair_passes n part a.0) ∙ pairs_pass ns more a.1

  -- no entry stands where pairs are to stand
  pub no_entry : (ns : List Needed) (rest : Tree) → ArePairs s k ds ns (pairs_in rest) → surplus_entry rest ≡ None
  no_entry ns Empty a = refl
  no_entry ns (Node h (Node DistinctPart names e) more) a = refl
  no_entry [] (Node h (Node AtEntry n e) more) a = absurd a
  no_entry (m ∷ ns) (Node h (Node AtEntry n e) more) a = absurd a.0
  no_entry ns (Node h part more) a = refl

module _ (s : Scene) where
  name_stands : (xs : List ℕ) (x : ℕ) (site : Option ℕ) → first_definition s.game x ≡ site → distinct_fault s xs x site ≡ None → IsDistinct s xs x
  name_stands xs x None f e = absurd (some_none _ e)
  name_stands xs x (Some p) f e =
      let a = first_of_none (first_other_site (is_large s) x 0 s.game) _ e in
      record { defined = ap is_some f; chosen = a.0; once = unless_named (is_named_in xs x) p a.1 }

  name_passes : (xs : List ℕ) (x : ℕ) (site : Option ℕ) → first_definition s.game x ≡ site → IsDistinct s xs x → distinct_fault s xs x site ≡ None
  name_passes xs x None f d = absurd (both_ways _ (ap is_some f) d.defined)
  name_passes xs x (Some p) f d =
      ap (λ z. first_of z (if is_named_in xs x then Some p else None)) d.chosen ∙ ap (λ b. if b then Some p else None) d.once

  pub names_stand : (xs ys : List ℕ) → first_unfit_name s xs ys ≡ None → AreDistinct s xs ys
  names_stand xs [] e = tt
  names_stand xs (y ∷ ys) e =
      let a = first_of_none (distinct_fault s xs y (first_definition s.game y)) _ e in
      (name_stands xs y (first_definition s.game y) refl a.0, names_stand (y ∷ xs) ys a.1)

  pub names_pass : (xs ys : List ℕ) → AreDistinct s xs ys → first_unfit_name s xs ys ≡ None
  names_pass xs [] a = refl
  names_pass xs (y ∷ ys) a =
      ap (λ z. first_of z (first_unfit_name s (y ∷ xs) ys)) (name_passes xs y (first_definition s.game y) refl a.0) ∙ names_pass (y ∷ xs) ys a.1
