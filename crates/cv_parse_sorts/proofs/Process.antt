-- The uses of names of a file's process: what the rules of names say of them.
use Rattle.std.proofs.Common.{◌≡◌, ℕ, Bool, true, false, cond, ◌==◌, ◌&&◌, ◌||◌, List, [], ◌∷◌, ◌++◌, append_assoc, length, ◌⊎◌, inl, inr, Option, Some, None, refl, ap, sym, subst, ◌∙◌}
use Rattle.std.proofs.lemmas.Bool.{both_ways, or_left}
use Rattle.std.proofs.lemmas.List.Folds.{list_any-append}
use Rattle.cv_syntax_trees.proofs.lists.Each.{AllByRecursion_left}
use Rattle.cv_parse_notation.specs.declared.sign.Mark.TheVariants as mark
use Rattle.cv_parse_notation.specs.declared.sign.Sign.{Sign}
use Rattle.cv_parse_notation.specs.Form.{many, may, ◌▸◌}
use Rattle.cv_parse_notation.specs.Spells.{IsSort, Spells, Use}
use Rattle.cv_parse_grammar.specs.declared.role.Asked.TheVariants.{AFunction}
use Rattle.cv_parse_grammar.specs.declared.role.Region.{Region}
use Rattle.cv_parse_grammar.specs.declared.role.Region.TheVariants.{InProcess}
use Rattle.cv_parse_grammar.specs.declared.role.Role.{Role}
use Rattle.cv_parse_grammar.specs.declared.role.Role.TheVariants.{Enters, Leaves, Mentions, MentionsCell}
use Rattle.cv_parse_grammar.specs.Declarations.{declaration}
use Rattle.cv_parse_grammar.specs.Files.{IsFile, levels}
use Rattle.cv_parse_grammar.specs.Names.{AreNamed, Uses, as_call, binds_variable, cell_known_in, declares_as, is_function, is_used, known_in, obeys, part_after, part_from}
use Rattle.cv_parse_grammar.specs.Phrases.{Sort}
use Rattle.cv_parse_grammar.specs.Phrases as sort
use Rattle.cv_parse_grammar.specs.Processes.{inputs}
use Rattle.cv_parse_grammar.specs.Rules.{File, heads, proof_block, rule}
use Rattle.cv_parse_grammar.specs.Whole.{built_in}
use Rattle.cv_parse_grammar.specs.yields.Yields.{AllUsed}
use Rattle.cv_parse_laws.proofs.roles.UsedRoles.{IsIn, form_uses, has_roles, sort_uses}
use Rattle.cv_parse_sorts.proofs.Calls.{AllSay, Says}
use Rattle.cv_parse_sorts.proofs.Bindings.{IsBound, bound_parts}
use Rattle.cv_parse_sorts.proofs.BindingRows.{quiet_form}
use Rattle.cv_parse_sorts.proofs.Parts.{part_append}

-- the part that is open

-- a use that neither begins nor ends a part
abbrev is_inside : Role → Bool
is_inside (Enters q) = false
is_inside Leaves = false
is_inside r = true

abbrev every_sort : Sort → Bool
every_sort s = true

inside_rows : (s : Sort) → every_sort s ≡ true → has_roles is_inside every_sort (rule s) ≡ true
inside_rows sort.Term e = refl
inside_rows sort.Conjunction e = refl
inside_rows sort.Primary e = refl
inside_rows sort.Unequal e = refl
inside_rows sort.Arguments e = refl
inside_rows sort.Subscript e = refl
inside_rows sort.Parentheses e = refl
inside_rows sort.Inputs e = refl
inside_rows sort.Input e = refl
inside_rows sort.Output e = refl
inside_rows sort.Pattern e = refl
inside_rows sort.Sending e = refl
inside_rows sort.Payload e = refl
inside_rows sort.Variables e = refl
inside_rows sort.Indices e = refl
inside_rows sort.ProcessBranch e = refl
inside_rows sort.Cells e = refl
inside_rows sort.OneCell e = refl
inside_rows sort.Body e = refl
inside_rows sort.BodyBranch e = refl
inside_rows sort.LeftFunction e = refl
inside_rows sort.RightFunction e = refl
inside_rows sort.RightRest e = refl
inside_rows sort.RightSide e = refl
inside_rows sort.Braces e = refl

part_same : (r : Role) (p : Option Region) → is_inside r ≡ true → part_after p r ≡ p
part_same (Enters q) p e = absurd (both_ways false refl e)
part_same Leaves p e = absurd (both_ways false refl e)
part_same r p e = refl

part_kept : (p : Option Region) (us : Uses) → AllUsed (IsIn is_inside every_sort) us → part_from p us ≡ p
unfolding part_from
part_kept p [] w = refl
part_kept p (u ∷ us) w = ap (λ q. part_from q us) (part_same u.role p w.0) ∙ part_kept p us w.1

abbrev enters : ℕ → Use Role
enters n = record { role = Enters InProcess; name = 0; left = n }

part_there : (before us : Uses) (n : ℕ) → AllUsed (IsIn is_inside every_sort) us → part_from None (before ++ enters n ∷ us) ≡ Some InProcess
unfolding part_from
part_there before us n w = part_append None before (enters n ∷ us) ∙ part_kept (Some InProcess) us w

-- what the rules say of a call and of a cell in the process

chosen : (b then_this else_that : Bool) → b ≡ true → cond b then_this else_that ≡ true → then_this ≡ true
chosen true t o e k = k
chosen false t o e k = absurd (both_ways false refl e)

called_function : (before behind : Uses) (x : ℕ) → known_in (Some InProcess) before behind x ≡ true → as_call behind ≡ true → is_function before x ≡ true
called_function before behind x k c = chosen (as_call behind) (is_function before x) _ c k

-- The process of a file: the uses of names before it, in it and behind it.
pub record IsProcess (ts : List Sign) (f : File) (us : Uses) : Type 0 where
  pub start : List Sign
  pub end : List Sign
  pub left : ℕ
  pub before : Uses
  pub used : Uses
  pub behind : Uses
  pub split : us ≡ before ++ enters left ∷ (used ++ behind)
  pub spelled : Spells heads true (IsSort heads rule levels) inputs start f.game used end
  -- no variable is bound before it or behind it
  pub none_before : (x : ℕ) → IsBound x before → ⊥
  pub none_behind : (x : ℕ) → IsBound x behind → ⊥

pub the_process : (ts : List Sign) (f : File) (us : Uses) → IsFile levels ts f us [] → IsProcess ts f us
the_process ts f us d =
    let one = d.1 in
    let two = one.second in
    let three = two.second.1 in
    let four = three.second.1 in
    let five = four.second in
    let game : two.second.0.1 ≡ d.0.1.1 = two.second.2 in
    record {
      start = four.mid;
      end = five.mid;
      left = length three.mid;
      before = one.front ++ two.front;
      used = five.front;
      behind = five.back;
      split =
          one.uses
          ∙ (ap (λ l. one.front ++ l) (two.uses ∙ ap (λ l. two.front ++ l) (three.uses ∙ (ap (λ l. l ++ three.back) three.first.uses ∙ (four.uses ∙ (ap (λ l. l ++ four.back) four.first.1.uses ∙ ap (λ l. enters (length three.mid) ∷ l) five.uses)))))
          ∙ sym (append_assoc one.front two.front (enters (length three.mid) ∷ (five.front ++ five.back))));
      spelled = subst (λ t. Spells heads true (IsSort heads rule levels) inputs four.mid t five.front five.mid) (three.second.2 ∙ (game ∙ ap (λ (f : File). f.game) d.2)) five.first;
      none_before = λ x e. elim (bound_parts x (one.front ++ two.front) one.front two.front refl e) as (λ _. ⊥) [
        | inl k ↦ quiet_form (many false declaration) refl levels ts d.0.0 one.front one.mid one.first x k
        | inr k ↦ quiet_form (may false (mark.Proof ▸ proof_block)) refl levels one.mid d.0.1.0 two.front two.mid two.first x k
      ];
      none_behind = λ x e. both_ways false refl (sym (ap (is_used binds_variable x) five.second.1.uses) ∙ e);
    }

module _ (ts : List Sign) (f : File) (uses : Uses) (named : AreNamed (built_in ∷ uses)) (p : IsProcess ts f uses) where
  abbrev All : Uses
  All = built_in ∷ uses

  used_inside : AllUsed (IsIn is_inside every_sort) p.used
  used_inside = form_uses is_inside every_sort heads true (IsSort heads rule levels) (sort_uses is_inside every_sort heads rule inside_rows levels) inputs refl p.start f.game p.used p.end p.spelled

  -- a variable that the file binds is bound in the process
  bound_there : (x : ℕ) → IsBound x All → IsBound x p.used
  bound_there x e = go (bound_parts x uses p.before (enters p.left ∷ (p.used ++ p.behind)) p.split e)
    where
      later : IsBound x p.used ⊎ IsBound x p.behind → IsBound x p.used
      later (inl k) = k
      later (inr k) = absurd (p.none_behind x k)

      go : IsBound x p.before ⊎ IsBound x (p.used ++ p.behind) → IsBound x p.used
      go (inl k) = absurd (p.none_before x k)
      go (inr k) = later (bound_parts x (p.used ++ p.behind) p.used p.behind refl k)

  module _ (F V : ℕ → Type 0) (functions : (x : ℕ) → is_used (declares_as AFunction) x All ≡ true → F x) (variables : (x : ℕ) → IsBound x p.used → V x) where
    module _ (pre : Uses) (u : Use Role) (post : Uses) (e : p.used ≡ pre ++ u ∷ post) where
      abbrev earlier : Uses
      earlier = (built_in ∷ p.before) ++ enters p.left ∷ pre

      abbrev later : Uses
      later = post ++ p.behind

      split : All ≡ earlier ++ u ∷ later
      split =
          ap (λ l. built_in ∷ l)
          (p.split
          ∙ (ap (λ l. p.before ++ enters p.left ∷ l) (ap (λ l. l ++ p.behind) e ∙ append_assoc pre (u ∷ post) p.behind)
          ∙ sym (append_assoc p.before (enters p.left ∷ pre) (u ∷ later))))

      part : part_from None earlier ≡ Some InProcess
      part = part_there (built_in ∷ p.before) pre p.left (AllByRecursion_left (λ (v : Use Role). is_inside v.role ≡ true) pre (u ∷ post) (subst (AllUsed (IsIn is_inside every_sort)) e used_inside))

      call_goes_on : (us vs : Uses) → as_call us ≡ true → as_call (us ++ vs) ≡ true
      call_goes_on [] vs k = absurd (both_ways false refl k)
      call_goes_on (v ∷ us) vs k = k

      function_here : (x : ℕ) → is_function earlier x ≡ true → F x
      function_here x k =
          functions x
          (ap (is_used (declares_as AFunction) x) split
          ∙ (list_any-append (λ v. declares_as AFunction v.role && (v.name == x)) earlier (u ∷ later)
          ∙ or_left (is_function earlier x) _ k))

      variable_here : (r : Role) → u.role ≡ r → binds_variable r ≡ false → (x : ℕ) → (is_used binds_variable x earlier || is_used binds_variable x later) ≡ true → V x
      variable_here r i n x k =
          variables x (bound_there x
          (ap (is_used binds_variable x) split
          ∙ (list_any-append (λ v. binds_variable v.role && (v.name == x)) earlier (u ∷ later)
          ∙ (ap (λ b. is_used binds_variable x earlier || ((b && (u.name == x)) || is_used binds_variable x later)) (ap binds_variable i ∙ n) ∙ k))))

      says : (r : Role) → u.role ≡ r → obeys earlier r u.name later ≡ true → Says F V r u.name post
      says Mentions i o = λ c. function_here u.name (called_function earlier later u.name (sym (ap (λ q. known_in q earlier later u.name) part) ∙ o) (call_goes_on post p.behind c))
      says MentionsCell i o = variable_here MentionsCell i refl u.name (sym (ap (λ q. cell_known_in q earlier later u.name) part) ∙ o)
      says r i o = tt

      use_says : Says F V u.role u.name post
      use_says = says u.role refl (named earlier u later split)

    all_say : (us : Uses) → ((pre : Uses) (u : Use Role) (post : Uses) → us ≡ pre ++ u ∷ post → Says F V u.role u.name post) → AllSay F V us
    all_say [] f = tt
    all_say (u ∷ us) f = (f [] u us refl, all_say us (λ pre v post e. f (u ∷ pre) v post (ap (λ l. u ∷ l) e)))

    pub process_says : AllSay F V p.used
    process_says = all_say p.used use_says
