use Rattle.std.proofs.Common.{refl}
use Rattle.frame.specs.Formats.{frame_bytes}
use Rattle.worked.proofs.shown.Goals as goal

-- each example is computed
pub returns-clause-cases : goal.returns-clause-cases
unfolding frame_bytes
returns-clause-cases g c =
    record {
      others =
          record {
            case_i_written = refl;
            case_i_heard = refl;
            case_j_written = refl;
            case_j_heard = refl;
            case_k_made = refl;
            case_k_refused = refl;
            case_k_number = refl;
            case_k_heard = refl;
            case_k_place = (refl, refl);
            case_l_put = refl;
            case_l_taken = λ area. refl;
            case_l_refused = λ area. refl;
            case_l_number = refl;
            case_l_oldest = λ area. refl;
            rfc_sum = refl;
            rfc_check = refl;
          };
      links =
          record {
            case_a_drafted = refl;
            case_a_refused = refl;
            case_a_back_refused = refl;
            case_a_number = refl;
            case_b_least = refl;
            case_b_back_least = refl;
            case_b_drafted = refl;
            case_b_refused = refl;
            case_b_back_refused = refl;
            case_c_least = refl;
            case_c_drafted = refl;
            case_c_refused = refl;
            case_c_longest = refl;
            case_c_longer = refl;
            case_d_least = refl;
            case_d_drafted = refl;
            case_d_refused = refl;
            window_0 = refl;
            window_33 = refl;
            window_first = refl;
            window_number = refl;
            bound_256 = refl;
            bound_number = refl;
            case_e_last_slot = refl;
            case_e_behind = refl;
            case_e_before = refl;
            case_f_all = refl;
            case_f_beyond = refl;
            case_f_before = refl;
            case_f_none = refl;
            case_g_least = refl;
            case_g_short = λ a b. refl;
            case_g_long = λ a b. refl;
            case_h_least = refl;
            case_h_short = λ a b. refl;
            case_h_long = λ a b. refl;
          };
    }
