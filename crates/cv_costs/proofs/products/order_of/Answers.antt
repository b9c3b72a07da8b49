use Rattle.std.proofs.Common.{◌≡◌, ℕ, zero, suc, ◌+◌, ◌<◌, List, [], ◌∷◌, ◌++◌, Some, None, length, take, get_or, arith, ap, sym, ◌∙◌}
use Rattle.std.proofs.lemmas.List.{flat_map_more, take_more}
use Rattle.std.proofs.lemmas.Option.{slice_get-get_or}
use Rattle.std.specs.Prelude.{slice_get}
use Rattle.std.specs.declared.alloc.Global.{Global}
use Rattle.std.specs.declared.vec.Vec.{Vec}
use Rattle.cv_syntax.specs.declared.decls.Decl.{Decl}
use Rattle.cv_costs.specs.Factors.{parameter_in, parameters_in}
use Rattle.cv_costs.proofs.products.order_of.Goals as goal
use Rattle.cv_costs.proofs.products.order_of.Goals.{in-Some+in_ok-add_declared, in_default}

-- the parameters of one declaration more
one_more : (ds : List Decl) (k : ℕ) (d : Decl) → k < length ds → slice_get ds k ≡ Some d → parameters_in (take k ds) ++ parameter_in d ≡ parameters_in (take (k + 1) ds)
one_more ds k d l e =
    let read : d ≡ get_or ds k d = let f = slice_get-get_or ds k d l in cc in
    flat_map_more parameter_in [] (take k ds) d
    ∙ (ap (λ x. parameters_in (take k ds ++ x ∷ [])) read
    ∙ ap parameters_in (sym (take_more ds k d l)))

none_past : (ds : List Decl) (k : ℕ) → k < length ds → slice_get ds k ≡ None → ⊥
none_past [] k l e = omega arith
none_past (d ∷ ds) zero l e = absurd (cc)
none_past (d ∷ ds) (suc k) l e = none_past ds k (omega arith) e

pub decls-preserved : goal.decls-preserved
decls-preserved c = elim c.match-get.branch [
  | in-Some+in_ok-add_declared w ↦
      ap (λ (v : Vec ℕ Global). v.items) w.order-is
      ∙ (w.in_ok-add_declared.ensures
      ∙ (ap (λ ps. ps ++ parameter_in w.in-Some.decl.now) c.decls.invariant
      ∙ one_more c.args.decls.now.list c.decls.k w.in-Some.decl.now (omega arith) (sym w.in-Some.ensures)))
  | in_default w ↦ absurd (none_past c.args.decls.now.list c.decls.k (omega arith) (sym w.in_default.ensures))
]
