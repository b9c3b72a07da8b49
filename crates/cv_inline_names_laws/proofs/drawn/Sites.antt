-- The callings of a context are the calls of its sites.
use Rattle.std.proofs.Common.{◌≡◌, ℕ, suc, ◌≤◌, Bool, true, false, cond, ◌==◌, List, [], ◌∷◌, ◌++◌, map, option_and_then, ◌⊎◌, inl, inr, Option, Some, None, refl, sym, ap, subst, ◌∙◌, eq-eqb, eqb-true, arith}
use Rattle.cv_syntax_trees.specs.Tree.{Tree, Empty, Node, first}
use Rattle.cv_meaning.specs.Interpretation.{Setting}
use Rattle.cv_meaning.specs.Cells.{bounds_under}
use Rattle.cv_meaning_laws.proofs.Listed.{Has}
use Rattle.cv_meaning.specs.contexts.Groups.{Function, Group, function_at}
use Rattle.cv_meaning.specs.contexts.Sites.{Site, bounds_above, is_call, site_numbered, site_with, sites_from}
use Rattle.cv_inline.specs.NextGame.{Calling, call_of, calling, callings_from, names_assigned, numbered, replications_under}
use Rattle.cv_syntax_trees.specs.lists.Options.{first_of}

-- both walks come to the same calls

abbrev IsSome : {A : Type 0} → Option A → Type 0
IsSome None = ⊥
IsSome (Some a) = Unit {0}

some_first : {A B : Type 0} (o q : Option A) (p r : Option B) → (IsSome o → IsSome p) → (IsSome q → IsSome r) → IsSome (first_of o q) → IsSome (first_of p r)
some_first None q None r f g s = g s
some_first None q (Some b) r f g s = tt
some_first (Some a) q None r f g s = absurd (f tt)
some_first (Some a) q (Some b) r f g s = tt

call_found : (g : Setting) (l : ℕ) (t : Tree) (rs : List (ℕ × ℕ)) (bounds : List ℕ) → IsSome (call_of rs l t) → IsSome (bounds_above g bounds l t)
unfolding call_of bounds_above
call_found g l Empty rs bounds s = s
call_found g l (Node h a b) rs bounds s =
    go (is_call l h) s
    (some_first (call_of (replications_under h rs) l a) (call_of (replications_under h rs) l b) (bounds_above g (bounds_under g bounds h) l a) (bounds_above g (bounds_under g bounds h) l b)
    (call_found g l a (replications_under h rs) (bounds_under g bounds h)) (call_found g l b (replications_under h rs) (bounds_under g bounds h)))
  where
    go : (c : Bool) → IsSome (cond c (Some (rs, a)) (first_of (call_of (replications_under h rs) l a) (call_of (replications_under h rs) l b)))
        → (IsSome (first_of (call_of (replications_under h rs) l a) (call_of (replications_under h rs) l b)) → IsSome (first_of (bounds_above g (bounds_under g bounds h) l a) (bounds_above g (bounds_under g bounds h) l b)))
        → IsSome (cond c (Some bounds) (first_of (bounds_above g (bounds_under g bounds h) l a) (bounds_above g (bounds_under g bounds h) l b)))
    go true s k = tt
    go false s k = k s

-- the calling of a call
abbrev calling_with : ℕ → Function → List (ℕ × ℕ) × Tree → Calling
calling_with l f c =
    record {
      caller = record { number = l; bound = f.bound; names = map (λ (x : ℕ × ℕ). x.0) f.arguments ++ names_assigned f.body; replications = c.0; key = first (first c.1) };
      function = f;
    }

abbrev at_function : Group → Site → Option Function
at_function g s = function_at g s.function

module _ (set : Setting) (group : Group) (context : Tree) where
  -- what holds of a calling of the list: it is found by its number, and the site with this number has its function
  pub record IsCalled (l : ℕ) (fs : List ℕ) (k : Calling) : Type 0 where
    pub from : l ≤ k.caller.number
    pub found : numbered k.caller.number (callings_from group context l fs) ≡ Some k
    pub function : option_and_then (at_function group) (site_numbered (sites_from set context l fs) k.caller.number) ≡ Some k.function

  apart : (l n : ℕ) → suc l ≤ n → (l == n) ≡ false
  apart l n p = go (l == n) refl
    where
      go : (b : Bool) → (l == n) ≡ b → b ≡ false
      go true e = absurd (let q : l ≡ n = eqb-true l n e in omega arith)
      go false e = refl

  not_this_site : (l f n : ℕ) (o : Option (List ℕ)) (ss : List Site) → (l == n) ≡ false → site_numbered (site_with l f o ++ ss) n ≡ site_numbered ss n
  not_this_site l f n None ss e = refl
  not_this_site l f n (Some bs) ss e = ap (λ b. cond b (Some (record { number = l; function = f; bounds = bs })) (site_numbered ss n)) e

  not_this_calling : (l n : ℕ) (o : Option Function) (c : Option (List (ℕ × ℕ) × Tree)) (cs : List Calling) → (l == n) ≡ false → numbered n (calling l o c ++ cs) ≡ numbered n cs
  not_this_calling l n None c cs e = refl
  not_this_calling l n (Some f) None cs e = refl
  not_this_calling l n (Some f) (Some c) cs e = ap (λ b. cond b (Some (calling_with l f c)) (numbered n cs)) e

  here : (l f : ℕ) (o : Option (List ℕ)) (ss : List Site) → IsSome o → option_and_then (at_function group) (site_numbered (site_with l f o ++ ss) l) ≡ function_at group f
  here l f None ss s = absurd s
  here l f (Some bs) ss s = ap (λ b. option_and_then (at_function group) (cond b (Some (record { number = l; function = f; bounds = bs })) (site_numbered ss l))) (eq-eqb l l refl)

  later : (l f : ℕ) (fs : List ℕ) (k : Calling) → IsCalled (suc l) fs k → IsCalled l (f ∷ fs) k
  unfolding callings_from sites_from
  later l f fs k e =
      let p : (l == k.caller.number) ≡ false = apart l k.caller.number e.from in
      record {
        from = let q : suc l ≤ k.caller.number = e.from in omega arith;
        found = not_this_calling l k.caller.number (function_at group f) (call_of [] l context) (callings_from group context (suc l) fs) p ∙ e.found;
        function = ap (option_and_then (at_function group)) (not_this_site l f k.caller.number (bounds_above set [] l context) (sites_from set context (suc l) fs) p) ∙ e.function;
      }

  first_called : (l f : ℕ) (fs : List ℕ) (o : Option Function) → function_at group f ≡ o → (c : Option (List (ℕ × ℕ) × Tree)) → call_of [] l context ≡ c → (k : Calling) → Has (calling l o c) k → IsCalled l (f ∷ fs) k
  unfolding callings_from sites_from
  first_called l f fs None e c q k h = absurd h
  first_called l f fs (Some fn) e None q k h = absurd h
  first_called l f fs (Some fn) e (Some c) q k (inr h) = absurd h
  first_called l f fs (Some fn) e (Some c) q k (inl h) =
      subst (IsCalled l (f ∷ fs)) (sym h)
      (record {
        from = omega arith;
        found = (λ i. numbered l (calling l (e i) (q i) ++ callings_from group context (suc l) fs)) ∙ ap (λ b. cond b (Some (calling_with l fn c)) (numbered l (callings_from group context (suc l) fs))) (eq-eqb l l refl);
        function = here l f (bounds_above set [] l context) (sites_from set context (suc l) fs) (call_found set l context [] [] (subst IsSome (sym q) tt)) ∙ e;
      })

  has_either : (xs ys : List Calling) (k : Calling) → Has (xs ++ ys) k → Has xs k ⊎ Has ys k
  has_either [] ys k h = inr h
  has_either (x ∷ xs) ys k (inl h) = inl (inl h)
  has_either (x ∷ xs) ys k (inr h) = go (has_either xs ys k h)
    where
      go : Has xs k ⊎ Has ys k → Has (x ∷ xs) k ⊎ Has ys k
      go (inl z) = inl (inr z)
      go (inr z) = inr z

  pub each_called : (l : ℕ) (fs : List ℕ) (k : Calling) → Has (callings_from group context l fs) k → IsCalled l fs k
  unfolding callings_from
  each_called l [] k h = absurd h
  each_called l (f ∷ fs) k h = go (has_either (calling l (function_at group f) (call_of [] l context)) (callings_from group context (suc l) fs) k h) (each_called (suc l) fs k)
    where
      go : Has (calling l (function_at group f) (call_of [] l context)) k ⊎ Has (callings_from group context (suc l) fs) k → (Has (callings_from group context (suc l) fs) k → IsCalled (suc l) fs k) → IsCalled l (f ∷ fs) k
      go (inl z) ih = first_called l f fs (function_at group f) refl (call_of [] l context) refl k z
      go (inr z) ih = later l f fs k (ih z)
