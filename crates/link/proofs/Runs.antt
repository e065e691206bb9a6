-- Runs of calls: none, one, one after another, one over and over, and the same run seen from the other end.
use Rattle.std.proofs.Common.{◌≡◌, ℕ, zero, suc, ◌+◌, List, [], ◌++◌, sym, ap, ◌∙◌, zero-add, append_assoc, arith}
use Rattle.std.proofs.Math.Path.{subst₂}
use Rattle.std.proofs.lemmas.List.{append-nil}
use Rattle.std.specs.Fn.{iterate}
use Rattle.air.specs.Steps.{Bytes}
use Rattle.protocol.specs.Machine.{Setting, State, Act, Reply, step, turned, act}
use Rattle.protocol.specs.Histories.{Past, does, passed_by, turned_past}
use Rattle.link.specs.Courses.{Course, Runs}

module _ {E F : Type 0} where
  -- no call at all
  pub none : {s : State E F Bytes Bytes} → Runs (λ p. p) s s [] []
  none = record { state = λ p e. e; passed = λ p e. sym (append-nil _); back_passed = λ p e. sym (append-nil _) }

  -- one act of the end that looks, which passes fs
  pub one : {s t : State E F Bytes Bytes} {r : Reply F} {fs : List F} (c : Setting E Bytes) (d : Setting F Bytes) (a : Act E) →
      step t r ≡ act c d a s → ((xs : List F) → passed_by r xs ≡ xs ++ fs) → Runs (does c d a) s t [] fs
  one {s} c d a h passes =
      let q = λ (p : Past E F Bytes Bytes) (e : p.state ≡ s). ap (act c d a) e ∙ sym h in
      record {
        state = λ p e. ap (λ x. x.state) (q p e);
        passed = λ p e. sym (append-nil _);
        back_passed = λ p e. ap (λ x. passed_by x.reply p.back.passed) (q p e) ∙ passes p.back.passed;
      }

  -- one run after another
  pub both : {f g : Past E F Bytes Bytes → Past E F Bytes Bytes} {s t u : State E F Bytes Bytes} {es es′ : List E} {fs fs′ : List F} →
      Runs f s t es fs → Runs g t u es′ fs′ → Runs (λ p. g (f p)) s u (es ++ es′) (fs ++ fs′)
  both {f} {g} {s} {t} {u} {es} {es′} {fs} {fs′} a b = record {
    state = λ p e. b.state (f p) (a.state p e);
    passed = λ p e. b.passed (f p) (a.state p e) ∙ ap (λ l. l ++ es′) (a.passed p e) ∙ append_assoc p.out.passed es es′;
    back_passed = λ p e.
        b.back_passed (f p) (a.state p e) ∙ ap (λ l. l ++ fs′) (a.back_passed p e) ∙ append_assoc p.back.passed fs fs′;
  }

  -- a run that leaves the state as it was and passes nothing, n times
  pub idle : {f : Past E F Bytes Bytes → Past E F Bytes Bytes} {s : State E F Bytes Bytes} →
      Runs f s s [] [] → (n : ℕ) → Runs (iterate f n) s s [] []
  idle r zero = none
  idle r (suc n) = both r (idle r n)

  -- what makes the same of every past in that state
  pub same : {f g : Past E F Bytes Bytes → Past E F Bytes Bytes} {s t : State E F Bytes Bytes} {es : List E} {fs : List F} →
      ((p : Past E F Bytes Bytes) → p.state ≡ s → g p ≡ f p) → Runs f s t es fs → Runs g s t es fs
  same h r = record {
    state = λ p e. ap (λ q. q.state) (h p e) ∙ r.state p e;
    passed = λ p e. ap (λ q. q.out.passed) (h p e) ∙ r.passed p e;
    back_passed = λ p e. ap (λ q. q.back.passed) (h p e) ∙ r.back_passed p e;
  }

  -- the run with the same settings, told otherwise
  pub set_as : {c c′ : Setting E Bytes} {d d′ : Setting F Bytes} {s t : State E F Bytes Bytes} {es : List E} {fs : List F} →
      (f : Course E F) → c ≡ c′ → d ≡ d′ → Runs (f c d) s t es fs → Runs (f c′ d′) s t es fs
  set_as {c} {c′} {d} {d′} {s} {t} {es} {fs} f e h = subst₂ (λ c d. Runs (f c d) s t es fs) e h

-- the run of the other end
pub from_there : {E F : Type 0} {f : Past E F Bytes Bytes → Past E F Bytes Bytes} {s t : State E F Bytes Bytes}
    {es : List E} {fs : List F} → Runs f s t es fs → Runs (λ p. turned_past (f (turned_past p))) (turned s) (turned t) fs es
from_there r = record {
  state = λ p e. ap turned (r.state (turned_past p) (ap turned e));
  passed = λ p e. r.back_passed (turned_past p) (ap turned e);
  back_passed = λ p e. r.passed (turned_past p) (ap turned e);
}

-- m times and then n times
pub iterate_more : {A : Type 0} (f : A → A) (m n : ℕ) (x : A) → iterate f (m + n) x ≡ iterate f n (iterate f m x)
iterate_more f zero n x = rw zero-add
iterate_more f (suc m) n x = let e : suc m + n ≡ suc (m + n) = omega arith in rw e (iterate_more f m n (f x))
