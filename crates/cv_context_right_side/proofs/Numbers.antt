-- Callings by number, and the sites of a side beside them.
use Rattle.std.proofs.Common.{◌≡◌, ℕ, zero, suc, ◌+◌, Bool, true, false, cond, ◌==◌, List, [], ◌∷◌, ◌++◌, length, map, ◌⊎◌, inl, inr, is_some, Option, Some, None, refl, sym, ap, subst, ◌∙◌, eq-eqb, arith}
use Rattle.std.proofs.lemmas.Bool.{both_ways, ne_eqb}
use Rattle.std.proofs.lemmas.List.{map-append}
use Rattle.std.specs.Prelude.{slice_get}
use Rattle.cv_syntax_trees.specs.declared.head.Head.{Head}
use Rattle.cv_syntax_trees.specs.declared.head.Head.TheVariants.{Repl}
use Rattle.cv_syntax_trees.specs.Tree.{Tree, Empty, Node, first}
use Rattle.cv_meaning.specs.Cells.{bounds_under}
use Rattle.cv_meaning_laws.proofs.Listed.{Has}
use Rattle.cv_meaning.specs.contexts.Finds.{Oracles, has_bound}
use Rattle.cv_meaning.specs.contexts.Groups.{Function, Group, function_at}
use Rattle.cv_meaning.specs.contexts.Sites.{Site, bounds_above, is_call, site_with, sites_from}
use Rattle.cv_meaning.specs.contexts.KeyTerms.{AreFineKeyTerms}
use Rattle.cv_meaning.specs.contexts.Inlined.{Caller, is_index_of}
use Rattle.cv_inline.specs.bodies.Inlining.{Inlining}
use Rattle.cv_inline.specs.bodies.Related.{AreSitesOf}
use Rattle.cv_inline.specs.NextGame.{Calling, call_of, callers_of, calling, callings_from, names_assigned, numbered, replications_under}
use Rattle.cv_inline_names_laws.proofs.covered.Functions.{has_either}
use Rattle.cv_syntax_trees.specs.lists.Options.{first_of}

abbrev pub Found : Type 0
Found = List (ℕ × ℕ) × Tree

-- the calling of a call
abbrev pub calling_at : ℕ → Function → Found → Calling
calling_at l f c =
    record {
      caller = record { number = l; bound = f.bound; names = map (λ (x : ℕ × ℕ). x.0) f.arguments ++ names_assigned f.body; replications = c.0; key = first (first c.1) };
      function = f;
    }

module _ (G : Group) (context : Tree) where
  not_this : (m n : ℕ) (o : Option Function) (c : Option Found) (cs : List Calling) → (m == n) ≡ false → numbered n (calling m o c ++ cs) ≡ numbered n cs
  not_this m n None c cs e = refl
  not_this m n (Some f) None cs e = refl
  not_this m n (Some f) (Some c) cs e = ap (λ b. cond b (Some (calling_at m f c)) (numbered n cs)) e

  number_here : (m n x : ℕ) (f : Function) (c : Found) (cs : List Calling) → m ≡ n → function_at G x ≡ Some f → call_of [] n context ≡ Some c → numbered n (calling m (function_at G x) (call_of [] m context) ++ cs) ≡ Some (calling_at n f c)
  number_here m n x f c cs e i =
      subst (λ l. call_of [] l context ≡ Some c → numbered l (calling m (function_at G x) (call_of [] m context) ++ cs) ≡ Some (calling_at l f c)) e
      (λ at. (λ j. numbered m (calling m (i j) (at j) ++ cs)) ∙ ap (λ b. cond b (Some (calling_at m f c)) (numbered m cs)) (eq-eqb m m refl))

  pub number_found : (fs : List ℕ) (m k n p : ℕ) (f : Function) (c : Found) → n ≡ m + k → slice_get fs k ≡ Some p → function_at G p ≡ Some f → call_of [] n context ≡ Some c → numbered n (callings_from G context m fs) ≡ Some (calling_at n f c)
  unfolding callings_from
  number_found [] m k n p f c e i j at = absurd (cc)
  number_found (x ∷ fs) m zero n p f c e i j at = let same : x ≡ p = cc in number_here m n x f c (callings_from G context (suc m) fs) (let z : m ≡ n = omega arith in z) (ap (function_at G) same ∙ j) at
  number_found (x ∷ fs) m (suc k) n p f c e i j at =
      not_this m n (function_at G x) (call_of [] m context) (callings_from G context (suc m) fs) (ne_eqb m n (λ z. let w : m ≡ n = z in absurd (omega arith)))
      ∙ number_found fs (suc m) k n p f c (let z : n ≡ suc m + k = omega arith in z) i j at

  -- each calling has its call
  pub record IsOfCall (k : Calling) : Type 0 where
    pub found : Found
    pub call : call_of [] k.caller.number context ≡ Some found
    pub replications : k.caller.replications ≡ found.0
    pub key : k.caller.key ≡ first (first found.1)

  of_calling : (l : ℕ) (o : Option Function) (c : Option Found) → call_of [] l context ≡ c → (k : Calling) → Has (calling l o c) k → IsOfCall k
  of_calling l None c e k h = absurd h
  of_calling l (Some f) None e k h = absurd h
  of_calling l (Some f) (Some c) e k (inr h) = absurd h
  of_calling l (Some f) (Some c) e k (inl h) = subst IsOfCall (sym h) (record { found = c; call = e; replications = refl; key = refl })

  pub of_call : (fs : List ℕ) (m : ℕ) (k : Calling) → Has (callings_from G context m fs) k → IsOfCall k
  unfolding callings_from
  of_call [] m k h = absurd h
  of_call (f ∷ fs) m k h = go (has_either (calling m (function_at G f) (call_of [] m context)) (callings_from G context (suc m) fs) k h) (of_call fs (suc m) k)
    where
      go : Has (calling m (function_at G f) (call_of [] m context)) k ⊎ Has (callings_from G context (suc m) fs) k → (Has (callings_from G context (suc m) fs) k → IsOfCall k) → IsOfCall k
      go (inl z) ih = of_calling m (function_at G f) (call_of [] m context) refl k z
      go (inr z) ih = ih z

  -- the bounds above a call are those of the replications above it

  module _ (p : Inlining) (pl : ℕ → Bool) (o : Oracles) (group : o.group ≡ G) where
    abbrev bounds_of : Option Found → Option (List ℕ)
    bounds_of None = None
    bounds_of (Some c) = Some (map (λ (r : ℕ × ℕ). p.g.interpretation.parameter_value r.1) c.0)

    first_bounds : (o q : Option (List ℕ)) (s t : Option Found) → o ≡ bounds_of s → q ≡ bounds_of t → first_of o q ≡ bounds_of (first_of s t)
    first_bounds o q None t e f = ap (λ z. first_of z q) e ∙ f
    first_bounds o q (Some c) t e f = ap (λ z. first_of z q) e

    under : (rs : List (ℕ × ℕ)) (h : Head) → bounds_under p.g (map (λ (r : ℕ × ℕ). p.g.interpretation.parameter_value r.1) rs) h ≡ map (λ (r : ℕ × ℕ). p.g.interpretation.parameter_value r.1) (replications_under h rs)
    under rs (Repl i n) = sym (map-append (λ (r : ℕ × ℕ). p.g.interpretation.parameter_value r.1) rs ((i, n) ∷ []))
    under rs h = refl

    bounds_are : (l : ℕ) (t : Tree) (rs : List (ℕ × ℕ)) → bounds_above p.g (map (λ (r : ℕ × ℕ). p.g.interpretation.parameter_value r.1) rs) l t ≡ bounds_of (call_of rs l t)
    unfolding bounds_above call_of
    bounds_are l Empty rs = refl
    bounds_are l (Node h a b) rs =
        go (is_call l h)
        (first_bounds _ _ (call_of (replications_under h rs) l a) (call_of (replications_under h rs) l b)
        (ap (λ bs. bounds_above p.g bs l a) (under rs h) ∙ bounds_are l a (replications_under h rs))
        (ap (λ bs. bounds_above p.g bs l b) (under rs h) ∙ bounds_are l b (replications_under h rs)))
      where
        bs : List ℕ
        bs = bounds_under p.g (map (λ (r : ℕ × ℕ). p.g.interpretation.parameter_value r.1) rs) h

        go : (z : Bool) → first_of (bounds_above p.g bs l a) (bounds_above p.g bs l b) ≡ bounds_of (first_of (call_of (replications_under h rs) l a) (call_of (replications_under h rs) l b))
            → cond z (Some (map (λ (r : ℕ × ℕ). p.g.interpretation.parameter_value r.1) rs)) (first_of (bounds_above p.g bs l a) (bounds_above p.g bs l b)) ≡ bounds_of (cond z (Some (rs, a)) (first_of (call_of (replications_under h rs) l a) (call_of (replications_under h rs) l b)))
        go true e = refl
        go false e = e

    -- what else is known of a caller
    pub record IsGood (s : Caller) : Type 0 where
      pub arity : p.arity s.number ≡ length s.replications
      pub own : (x : ℕ) → pl x ≡ true → is_index_of s.replications x ≡ false
      pub key_terms : AreFineKeyTerms (is_index_of s.replications) pl s.key

    pub sites_related : (fs : List ℕ) (m : ℕ) → ((k q : ℕ) → slice_get fs k ≡ Some q → is_some (function_at G q) ≡ true) → ((k : Calling) → Has (callings_from G context m fs) k → IsGood k.caller)
        → AreSitesOf p pl o (callers_of (callings_from G context m fs)) (sites_from p.g context m fs)
    unfolding callings_from sites_from
    sites_related [] m f good = tt
    sites_related (q ∷ fs) m f good =
        go (function_at G q) refl (f 0 q refl) (call_of [] m context) (bounds_above p.g [] m context) (bounds_are m context []) good
        (sites_related fs (suc m) (λ k x e. f (suc k) x e))
      where
        cs : List Calling
        cs = callings_from G context (suc m) fs

        ss : List Site
        ss = sites_from p.g context (suc m) fs

        go : (a : Option Function) → function_at G q ≡ a → is_some a ≡ true → (c : Option Found) (b : Option (List ℕ)) → b ≡ bounds_of c → ((k : Calling) → Has (calling m a c ++ cs) k → IsGood k.caller)
            → (((k : Calling) → Has cs k → IsGood k.caller) → AreSitesOf p pl o (callers_of cs) ss) → AreSitesOf p pl o (callers_of (calling m a c ++ cs)) (site_with m q b ++ ss)
        go None e z c b i good ih = absurd (both_ways false refl z)
        go (Some fn) e z None b i good ih = subst (λ b. AreSitesOf p pl o (callers_of cs) (site_with m q b ++ ss)) (sym i) (ih good)
        go (Some fn) e z (Some c) b i good ih =
            let g = good (calling_at m fn c) (inl refl) in
            subst (λ b. AreSitesOf p pl o (callers_of (calling m (Some fn) (Some c) ++ cs)) (site_with m q b ++ ss)) (sym i)
            (record { number = refl; bound = λ n. ap (has_bound n) (ap (λ y. function_at y q) group ∙ e); bounds = refl; arity = g.arity; own = g.own; key_terms = g.key_terms }, ih (λ k h. good k (inr h)))
