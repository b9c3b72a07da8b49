-- Of each two copies of one value a certificate has a pair, with a derivation.
use Rattle.std.proofs.Common.{◌≡◌, ℕ, ◌==◌, Bool, true, false, cond, List, [], ◌∷◌, ◌++◌, flat_map, ◌⊎◌, inl, inr, Option, Some, None, refl, sym, ap, subst, ◌∙◌, eq-eqb}
use Rattle.std.specs.List.{AllByRecursion}
use Rattle.cv_syntax_trees.proofs.lists.Options.{none_some, some_injective}
use Rattle.cv_syntax_trees.specs.declared.head.Head.TheVariants.{Leaf, Let, Read, SecretPair}
use Rattle.cv_syntax_trees.specs.Tree.{Tree, Empty, Node, first_place, second_place}
use Rattle.cv_meaning.specs.Interpretation.{Setting}
use Rattle.cv_meaning.specs.Memory.{Local}
use Rattle.cv_meaning.specs.Runs.{Adversary, Mode}
use Rattle.cv_meaning.specs.Tapes.{Cell, New_at, Tape}
use Rattle.cv_meaning.specs.Terms.{values, values_here}
use Rattle.cv_meaning.specs.Experiments.{visits_of_run}
use Rattle.cv_meaning_laws.proofs.Listed.{Has, has_flat_map, has_left, has_right}
use Rattle.cv_meaning_runs.specs.Placed.{IsPassedDown, VisitHas}
use Rattle.cv_meaning_runs.proofs.Placed.{visits_have}
use Rattle.cv_scope_rules.specs.Context.{items}
use Rattle.cv_scene.specs.Pairs.{all_of_second}
use Rattle.cv_scene.specs.Scenes.{Scene}
use Rattle.cv_scene.specs.Terms.{replications_at}
use Rattle.cv_query_certificates.specs.Marks.{plain}
use Rattle.cv_query_certificates.specs.Pairs.{equations_between}
use Rattle.cv_query_certificates.specs.SecretPairs.{AreSecretPairsFor, Copy, IsSecretPair, NeededSecret, copies_in, copy_here, copy_of, proves_secret, secret_pair, secret_pairs_among}
use Rattle.cv_query_secrets.proofs.sessions.Links.{drawn_by}

module _ (s : Scene) (k : ℕ) where
  -- a derivation for a pair that is needed
  pub record IsProved (n : NeededSecret) : Type 0 where
    pub by : Tree
    pub proves : proves_secret s k n by ≡ true

  proved_by : (n : NeededSecret) (part : Tree) → IsSecretPair s k n part → IsProved n
  proved_by n (Node SecretPair p (Node h q by)) e = record { by = plain k by; proves = e.1 }
  proved_by n part e = absurd e

  pub proved_in : (ns : List NeededSecret) (parts : Tree) → AreSecretPairsFor s k ns parts → (n : NeededSecret) → Has ns n → IsProved n
  proved_in [] parts a n h = absurd h
  proved_in (m ∷ ns) Empty a n h = absurd a
  proved_in (m ∷ ns) (Node h part more) a n (inl e) = subst IsProved (sym e) (proved_by m part a.0)
  proved_in (m ∷ ns) (Node h part more) a n (inr z) = proved_in ns more a.1 n z

  -- two copies of one value

  abbrev pub needed_of : Copy → Copy → NeededSecret
  needed_of c d = record { first = c.place; second = d.place; given = equations_between c.indices (all_of_second k (replications_at s d.place) d.indices) }

  is_needed : (c d : Copy) → c.source ≡ d.source → Has (secret_pair s k c d) (needed_of c d)
  is_needed c d e = subst (λ b. Has (cond b (needed_of c d ∷ []) []) (needed_of c d)) (sym (eq-eqb c.source d.source e)) (inl refl)

  first_among : (b : Copy) (cs : List Copy) (d : Copy) → b.source ≡ d.source → Has (b ∷ cs) d → Has (secret_pairs_among s k (b ∷ cs)) (needed_of b d)
  first_among b cs d e h =
      has_left (flat_map (secret_pair s k b) (b ∷ cs)) (secret_pairs_among s k cs) (needed_of b d) (has_flat_map (secret_pair s k b) (b ∷ cs) d (needed_of b d) h (is_needed b d e))

  -- one of them stands first
  pub among : (cs : List Copy) (c d : Copy) → c.source ≡ d.source → Has cs c → Has cs d → Has (secret_pairs_among s k cs) (needed_of c d) ⊎ Has (secret_pairs_among s k cs) (needed_of d c)
  among [] c d e g h = absurd g
  among (b ∷ cs) c d e (inl f) h =
      inl (subst (λ z. z.source ≡ d.source → Has (secret_pairs_among s k (b ∷ cs)) (needed_of z d)) (sym f) (λ j. first_among b cs d j h) e)
  among (b ∷ cs) c d e (inr g) (inl f) =
      inr (subst (λ z. z.source ≡ c.source → Has (secret_pairs_among s k (b ∷ cs)) (needed_of z c)) (sym f) (λ j. first_among b cs c j (inr g)) (sym e))
  among (b ∷ cs) c d e (inr g) (inr h) = go (among cs c d e g h)
    where
      go : Has (secret_pairs_among s k cs) (needed_of c d) ⊎ Has (secret_pairs_among s k cs) (needed_of d c)
          → Has (secret_pairs_among s k (b ∷ cs)) (needed_of c d) ⊎ Has (secret_pairs_among s k (b ∷ cs)) (needed_of d c)
      go (inl z) = inl (has_right (flat_map (secret_pair s k b) (b ∷ cs)) (secret_pairs_among s k cs) (needed_of c d) z)
      go (inr z) = inr (has_right (flat_map (secret_pair s k b) (b ∷ cs)) (secret_pairs_among s k cs) (needed_of d c) z)

-- the copies of a visited construct are those of the game

abbrev pub AreCopiesIn : (game : Tree) → (x p : ℕ) → Tree → Type 0
AreCopiesIn game x p b = (c : Copy) → Has (copies_in x p b) c → Has (copies_in x 0 game) c

copies_down : (game : Tree) (x : ℕ) → IsPassedDown (AreCopiesIn game x)
unfolding copies_in
copies_down game x p h a b f = (
  λ c z. f c (has_right (copy_here x p h a) (copies_in x (first_place p h) a ++ copies_in x (second_place p h a) b) c (has_left (copies_in x (first_place p h) a) (copies_in x (second_place p h a) b) c z)),
  λ c z. f c (has_right (copy_here x p h a) (copies_in x (first_place p h) a ++ copies_in x (second_place p h a) b) c (has_right (copies_in x (first_place p h) a) (copies_in x (second_place p h a) b) c z)),
)

pub visits_copy : (g : Setting) (m : Mode) (a : Adversary) (game : Tree) (t : Tape) (x : ℕ) → AllByRecursion (VisitHas (AreCopiesIn game x)) (visits_of_run g m a game t)
visits_copy g m a game t x = visits_have (AreCopiesIn game x) g m a game t (copies_down game x) (λ c z. z)

-- a copy as the certificate sees it, with the draw that it takes

abbrev pub index_list : (term : Tree) → Tree
index_list (Node (Read y) ms b) = ms
index_list term = Empty

abbrev pub copy_from : (place source : ℕ) → (term : Tree) → Copy
copy_from p y m = record { place = p; source = y; indices = items (index_list m) }

pub record IsDrawnAs (g : Setting) (p : ℕ) (term : Tree) (l : Local) (d : Cell) : Type 0 where
  pub source : ℕ
  pub copy : copy_of p term ≡ copy_from p source term ∷ []
  pub cell : d ≡ New_at source (values_here g l (index_list term))

pub drawn_as : (g : Setting) (p : ℕ) (term : Tree) (l : Local) (d : Cell) → drawn_by g term l ≡ Some d → IsDrawnAs g p term l d
unfolding values
drawn_as g p (Node (Leaf y) a b) l d e = record { source = y; copy = refl; cell = sym (some_injective e) }
drawn_as g p (Node (Read y) ms b) l d e = record { source = y; copy = refl; cell = sym (some_injective e) }
drawn_as g p m l d e = absurd (none_some d e)

pub copied_in_game : (game : Tree) (x p T : ℕ) (m b : Tree) (c : Copy) → AreCopiesIn game x p (Node (Let x T) m b) → copy_of p m ≡ c ∷ [] → Has (copies_in x 0 game) c
unfolding copies_in
copied_in_game game x p T m b c f e =
    f c (has_left (copy_here x p (Let x T) m) (copies_in x (first_place p (Let x T)) m ++ copies_in x (second_place p (Let x T) m) b) c
    (subst (λ cs. Has cs c) (sym e ∙ ap (λ z. cond z (copy_of p m) []) (sym (eq-eqb x x refl))) (inl refl)))
