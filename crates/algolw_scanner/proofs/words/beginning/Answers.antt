use Rattle.algolw_scanner.proofs.Beginnings.{whole, begins_a, begins_b, begins_c, begins_d, begins_e, begins_f, begins_g, begins_i, begins_l, begins_n, begins_o, begins_p, begins_r, begins_s, begins_t, begins_u, begins_v, begins_w, begins_h, begins_j, begins_k, begins_m, begins_q, begins_x, begins_y, begins_z}
use Rattle.algolw_scanner.proofs.words.beginning.Goals as goal

pub returns-in-65 : goal.returns-in-65
returns-in-65 c = begins_a c.args.first c.in-65.is

pub returns-in-66 : goal.returns-in-66
returns-in-66 c = begins_b c.args.first c.in-66.is

pub returns-in-67 : goal.returns-in-67
returns-in-67 c = begins_c c.args.first c.in-67.is

pub returns-in-68 : goal.returns-in-68
returns-in-68 c = begins_d c.args.first c.in-68.is

pub returns-in-69 : goal.returns-in-69
returns-in-69 c = begins_e c.args.first c.in-69.is

pub returns-in-70 : goal.returns-in-70
returns-in-70 c = begins_f c.args.first c.in-70.is

pub returns-in-71 : goal.returns-in-71
returns-in-71 c = begins_g c.args.first c.in-71.is

pub returns-in-73 : goal.returns-in-73
returns-in-73 c = begins_i c.args.first c.in-73.is

pub returns-in-76 : goal.returns-in-76
returns-in-76 c = begins_l c.args.first c.in-76.is

pub returns-in-78 : goal.returns-in-78
returns-in-78 c = begins_n c.args.first c.in-78.is

pub returns-in-79 : goal.returns-in-79
returns-in-79 c = begins_o c.args.first c.in-79.is

pub returns-in-80 : goal.returns-in-80
returns-in-80 c = begins_p c.args.first c.in-80.is

pub returns-in-82 : goal.returns-in-82
returns-in-82 c = begins_r c.args.first c.in-82.is

pub returns-in-83 : goal.returns-in-83
returns-in-83 c = begins_s c.args.first c.in-83.is

pub returns-in-84 : goal.returns-in-84
returns-in-84 c = begins_t c.args.first c.in-84.is

pub returns-in-85 : goal.returns-in-85
returns-in-85 c = begins_u c.args.first c.in-85.is

pub returns-in-86 : goal.returns-in-86
returns-in-86 c = begins_v c.args.first c.in-86.is

pub returns-in-87 : goal.returns-in-87
returns-in-87 c = begins_w c.args.first c.in-87.is

pub returns-in_default : goal.returns-in_default
returns-in_default c = whole c.args.first

pub returns-in-72 : goal.returns-in-72
returns-in-72 c = begins_h c.args.first c.in-72.is

pub returns-in-74 : goal.returns-in-74
returns-in-74 c = begins_j c.args.first c.in-74.is

pub returns-in-75 : goal.returns-in-75
returns-in-75 c = begins_k c.args.first c.in-75.is

pub returns-in-77 : goal.returns-in-77
returns-in-77 c = begins_m c.args.first c.in-77.is

pub returns-in-81 : goal.returns-in-81
returns-in-81 c = begins_q c.args.first c.in-81.is

pub returns-in-88 : goal.returns-in-88
returns-in-88 c = begins_x c.args.first c.in-88.is

pub returns-in-89 : goal.returns-in-89
returns-in-89 c = begins_y c.args.first c.in-89.is

pub returns-in-90 : goal.returns-in-90
returns-in-90 c = begins_z c.args.first c.in-90.is
