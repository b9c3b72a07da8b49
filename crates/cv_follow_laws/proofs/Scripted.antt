-- Of a file with a proof block: two trails along its steps, of which one may be shorter.
use Rattle.std.proofs.Common.{◌≡◌, ℕ, ◌≤◌, Bool, List, [], ◌∷◌, ◌++◌, length, map, take, drop, refl, ap, sym, ◌∙◌, subst, arith}
use Rattle.std.proofs.lemmas.List.{length-map, length-take-le, map-append, take-append-drop, take-map, take_all}
use Rattle.cv_pool.specs.names.Texts.{NoRepeat}
use Rattle.cv_syntax_trees.specs.Tree.{Tree}
use Rattle.cv_accept.specs.Accepted.{Content}
use Rattle.cv_kernel.specs.Drawings.{DrawsAlong, told}
use Rattle.cv_kernel.specs.Proofs.{IsProof, Transition}
use Rattle.cv_sequences.proofs.files.kernel.sequences.OneSequence.{alike}
use Rattle.cv_follow.specs.Courses.{DrawsThrough, Table, names_behind}
use Rattle.cv_follow.specs.Scripts.{is_without_block}
use Rattle.cv_kernel.specs.Followed.{known_to}
use Rattle.cv_follow.proofs.Courses.{drawn_along}
use Rattle.cv_follow_laws.proofs.Fronts.{drawn_front, proof_front, steps_front}
use Rattle.cv_follow_laws.proofs.Tables.{as_many, same_tables, through_front}

module _ (c : Content) (apart : NoRepeat c.names) where
  abbrev found : Bool
  found = is_without_block c.script

  abbrev Leads : List Transition → Tree → Type 0
  Leads ts last = IsProof c.declarations (known_to c.own) c.game ts last

  abbrev Drawn : List Transition → List (List ℕ) → Type 0
  Drawn ts after = DrawsAlong found c.declarations (known_to c.own) c.own c.game (map told ts) c.names after

  -- the shorter one is the front of the longer one
  pub front_is : (ts us : List Transition) (g h : Tree) (after other : List (List ℕ)) (left rest : List Tree) → Leads ts g → Leads us h → Drawn ts after → Drawn us other → map (λ (t : Transition). t.step) ts ++ left ≡ map (λ (t : Transition). t.step) us ++ rest → length ts ≤ length us → ts ≡ take (length ts) us
  front_is ts us g h after other left rest p q k l e few =
      let n : ℕ = length ts in
      let front = proof_front c.declarations (known_to c.own) c.game us h n q in
      let parts : map told us ≡ map told (take n us) ++ map told (drop n us) = ap (map told) (sym (take-append-drop n us)) ∙ map-append told (take n us) (drop n us) in
      let along = drawn_front c.declarations (known_to c.own) found c.own c.game (map told (take n us)) (map told (drop n us)) c.names other (subst (λ xs. DrawsAlong found c.declarations (known_to c.own) c.own c.game xs c.names other) parts l) in
      (alike found c.declarations (known_to c.own) c.own c.game g front.0 ts (take n us) c.names after along.0 apart p front.1 (steps_front ts us left rest e few) k along.1).one

  -- trails of as many steps are one, and draw one table
  pub same_is : (ts us : List Transition) (g h : Tree) (after other : List (List ℕ)) (left rest : List Tree) → Leads ts g → Leads us h → Drawn ts after → Drawn us other → map (λ (t : Transition). t.step) ts ++ left ≡ map (λ (t : Transition). t.step) us ++ rest → length ts ≡ length us → (ts ≡ us) × (after ≡ other)
  same_is ts us g h after other left rest p q k l e same =
      let one : ts ≡ us = front_is ts us g h after other left rest p q k l e (omega arith) ∙ take_all (length ts) us (omega arith) in
      (one, (alike found c.declarations (known_to c.own) c.own c.game g h ts us c.names after other apart p q (ap (map (λ (t : Transition). t.step)) one) k l).names)

  -- and the tables along them are one
  pub one_tables : (ts : List Transition) (g : Tree) (a b : List Table) → Leads ts g → DrawsThrough found c.declarations (known_to c.own) c.own c.game (map told ts) c.names a → DrawsThrough found c.declarations (known_to c.own) c.own c.game (map told ts) c.names b → a ≡ b
  one_tables ts g a b p k l =
      let n = as_many found c.declarations (known_to c.own) c.own c.game (map told ts) c.names a k in
      let m = as_many found c.declarations (known_to c.own) c.own c.game (map told ts) c.names b l in
      same_tables c.names a b (n ∙ sym m) (λ j few.
      let front = proof_front c.declarations (known_to c.own) c.game ts g j p in
      let parts : map told ts ≡ map told (take j ts) ++ map told (drop j ts) = ap (map told) (sym (take-append-drop j ts)) ∙ map-append told (take j ts) (drop j ts) in
      let count : length (map told (take j ts)) ≡ j = length-map (take j ts) told ∙ length-take-le j ts (let e = n ∙ length-map ts told in omega (arith, few)) in
      let cut : (tables : List Table) → DrawsThrough found c.declarations (known_to c.own) c.own c.game (map told ts) c.names tables → DrawsThrough found c.declarations (known_to c.own) c.own c.game (map told (take j ts)) c.names (take j tables) = λ tables h.
      subst (λ i. DrawsThrough found c.declarations (known_to c.own) c.own c.game (map told (take j ts)) c.names (take i tables)) count
      (through_front found c.declarations (known_to c.own) c.own c.game (map told (take j ts)) (map told (drop j ts)) c.names tables (subst (λ xs. DrawsThrough found c.declarations (known_to c.own) c.own c.game xs c.names tables) parts h)) in
      let one = drawn_along found c.declarations (known_to c.own) c.own c.game (map told (take j ts)) c.names (take j a) (cut a k) in
      let two = drawn_along found c.declarations (known_to c.own) c.own c.game (map told (take j ts)) c.names (take j b) (cut b l) in
      (alike found c.declarations (known_to c.own) c.own c.game front.0 front.0 (take j ts) (take j ts) c.names (names_behind c.names (take j a)) (names_behind c.names (take j b)) apart front.1 front.1 refl one two).names)
