-- What a chain of iterators over the numbers below n comes to, in the words of the definitions: `all` finds
-- whether all of them pass a test (`all_over`), `filter` and `count` how many do (`count_over`).
--
-- std's word for such a chain is of a list, read from its front, and the definitions are read from the last
-- number back: a range of n + 1 numbers is one of n, and n behind it (`all_listed`, `count_listed`).
-- Assumes nothing.
use Rattle.basics.proofs.Prelude.{◌≡◌, refl, sym, ap, ◌∙◌, subst, Bool, true, false, cond, List, [], ◌∷◌, ◌++◌}
use Rattle.basics.proofs.Prelude.{length, ℕ, zero, suc, ◌+◌, zero-add, add-one, arith}
use mathlib.Core.Bool.{and-true}
use mir.Val.{bool_byte}
use mathlib.Core.List.{map, map-id}
use Rattle.std.specs.List.{list_all, filter, range_with_len, FoldsTo}
use Rattle.std.proofs.lemmas.List.Folds.{list_all-append}
use Rattle.std.proofs.lemmas.List.FromFn.{map-range_with_len_more}
use Rattle.std.proofs.iter.Yields.{nat_range_steps}
use Rattle.std.proofs.lemmas.Iterator.{YieldsList-from_range}
use Rattle.std.proofs.lemmas.Iterator.Consumers.{count_from_yields_List, YieldsList-from_filter}
use Rattle.std.proofs.lemmas.Iterator.Search.{all_from_yields_List}
use Rattle.std.specs.declared.ops.Range.{Range}
use Rattle.std.specs.Prelude.{Option}
use Rattle.std.specs.Fn.{Called, CalledAt}
use Rattle.std.specs.Iterator.{YieldsThen, Drains}
use Rattle.std.specs.Iterator.Adapters.{filter_source, filter_callee, filter_steps}
use denote.Ref.{Bor}
use Rattle.std.specs.declared.iter.Filter.{Filter}
use Rattle.std.specs.Prelude.{MatchOption}
use denote.Param.Members.{Mut}
use Rattle.basics.specs.Tests.{all_below}
use Rattle.basics.specs.Counting.{count_below}
use Rattle.basics.proofs.Cases.{by_test}

below : ℕ → List ℕ
below n = map (λ i. i) (range_with_len 0 n)

below_more : (n : ℕ) → below (suc n) ≡ below n ++ n ∷ []
unfolding below
below_more n =
    let P : ℕ → Type 0 = λ m. map (λ i. i) (range_with_len 0 m) ≡ map (λ i. i) (range_with_len 0 n) ++ n ∷ [] in
    subst P (add-one n) (map-range_with_len_more (λ i. i) 0 n n (zero-add n))

below_is : (n : ℕ) → range_with_len 0 n ≡ below n
unfolding below
below_is n = sym (map-id (range_with_len 0 n))

all_in : (test : ℕ → Bool) (n : ℕ) → list_all test (below n) ≡ all_below test n
unfolding below all_below
all_in test zero = refl
all_in test (suc n) =
    ap (list_all test) (below_more n)
    ∙ list_all-append test (below n) (n ∷ [])
    ∙ rw (all_in test n, and-true (test n)) refl

pub all_listed : (test : ℕ → Bool) (n : ℕ) → list_all test (range_with_len 0 n) ≡ all_below test n
all_listed test n = ap (list_all test) (below_is n) ∙ all_in test n

one_or_none : (b : Bool) (n : ℕ) → length (cond b (n ∷ []) []) ≡ bool_byte b
one_or_none true n = refl
one_or_none false n = refl

filter-append : (test : ℕ → Bool) (xs ys : List ℕ)
    → length (filter test (xs ++ ys)) ≡ length (filter test xs) + length (filter test ys)
filter-append test [] ys = sym (zero-add (length (filter test ys)))
filter-append test (x ∷ xs) ys =
    let ih = filter-append test xs ys in
    by_test (test x) (λ e. rw e (omega arith)) (λ e. rw e ih)

count_in : (test : ℕ → Bool) (n : ℕ) → length (filter test (below n)) ≡ count_below test n
unfolding below count_below
count_in test zero = refl
count_in test (suc n) =
    ap (λ xs. length (filter test xs)) (below_more n)
    ∙ filter-append test (below n) (n ∷ [])
    ∙ rw (count_in test n, one_or_none (test n) n) refl

pub count_listed : (test : ℕ → Bool) (n : ℕ) → length (filter test (range_with_len 0 n)) ≡ count_below test n
count_listed test n = ap (λ xs. length (filter test xs)) (below_is n) ∙ count_in test n

-- ---- the calls: what the clause `ran` says of them, and what the closure gives of each number

pub all_over : {F : Type 0} {g : Mut F (ℕ × Unit {0}) Bool} (test : ℕ → Bool) (n : ℕ) (u : Range ℕ) (f : F)
    (r : Bool) → (xs : List ℕ) × (o : Option ℕ) × (j : F)
    × YieldsThen nat_range_steps (record { start = 0; end = n }) xs o u
    × FoldsTo (λ p x q. Called g p (x, tt) true q) f xs j
    × MatchOption o (r ≡ true) (λ x. (r ≡ false) × ((h : F) × Called g j (x, tt) false h))
    → ((x : ℕ) (b : Bool) (q : F) → Called g f (x, tt) b q → (q ≡ f) × (b ≡ test x)) → r ≡ all_below test n
all_over test n u f r ran gives =
    all_from_yields_List test u f r ran (YieldsList-from_range 0 n n refl (omega arith)) gives ∙ all_listed test n

pub count_over : {F : Type 0} (g : Mut F (Bor ℕ × Unit {0}) Bool)
    (test : ℕ → Bool) (n : ℕ) {s : Filter (Range ℕ) F} {f : F} (r : ℕ)
    → ((xs : List ℕ) × Drains (filter_steps nat_range_steps g) s xs × (r ≡ length xs))
    → filter_source s ≡ record { start = 0; end = n } → filter_callee s ≡ f
    → ((x : ℕ) (b : Bool) (q : F) → CalledAt g f x b q → (q ≡ f) × (b ≡ test x)) → r ≡ count_below test n
count_over g test n {s} r ran source callee gives =
    count_from_yields_List s r ran
    (YieldsList-from_filter g test (YieldsList-from_range 0 n n source (omega arith)) callee gives)
    ∙ count_listed test n
